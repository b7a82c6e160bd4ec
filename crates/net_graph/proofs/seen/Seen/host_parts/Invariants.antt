use Rattle.std.proofs.Common.{◌≡◌, false, drop}
use Rattle.net_graph.specs.Steps.{walked, IsFew}
use Rattle.net_graph.specs.Visits.{host_parts}
use Rattle.net_graph.proofs.Walks.{host_parts_of}
use Rattle.net_graph.proofs.seen.Seen.host_parts.Given as goal

abbrev pub invariant-loop-attribute : goal.invariant-loop-attribute
invariant-loop-attribute l = record {
  walk : walked l.frequency l.initial.self (host_parts l.frequency l.host false l.list) ≡
      walked l.frequency l.self (host_parts_of l.frequency l.host l.met (drop l.attribute-index l.attribute-items));
  few : IsFew l.self;
}
