use Rattle.std.proofs.Common.{◌≡◌, drop, codes}
use Rattle.std.specs.List.{flat_map}
use Rattle.net_graph.specs.Keys.{lists_of}
use Rattle.net_graph.specs.Steps.{walked, IsFew}
use Rattle.net_graph.specs.Visits.{session_visits, graph_visits}
use Rattle.net_graph.proofs.seen.Seen.graph.Given as goal

abbrev pub invariant-loop-attribute : goal.invariant-loop-attribute
invariant-loop-attribute l = record {
  walk : walked l.frequency l.initial.self (graph_visits l.frequency l.graph) ≡
      walked l.frequency l.self (flat_map (session_visits l.frequency) (lists_of (codes "ProtocolSession") (drop l.attribute-index l.attribute-items)));
  few : IsFew l.self;
}
