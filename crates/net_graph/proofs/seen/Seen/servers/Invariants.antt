use Rattle.std.proofs.Common.{◌≡◌, drop, codes}
use Rattle.std.specs.List.{flat_map}
use Rattle.dml_tree.specs.TreeView.{attributes}
use Rattle.net_graph.specs.Keys.{lists_of}
use Rattle.net_graph.specs.Steps.{walked, IsFew}
use Rattle.net_graph.specs.Visits.{server_visits}
use Rattle.net_graph.proofs.seen.Seen.servers.Given as goal

abbrev pub invariant-loop-attribute : goal.invariant-loop-attribute
invariant-loop-attribute l = record {
  walk : walked l.frequency l.initial.self (flat_map (server_visits l.net) (lists_of (codes "servers") (attributes l.list))) ≡
      walked l.frequency l.self (flat_map (server_visits l.net) (lists_of (codes "servers") (drop l.attribute-index l.attribute-items)));
  few : IsFew l.self;
}
