use Rattle.std.proofs.Common.{◌≡◌, drop, codes}
use Rattle.std.specs.List.{flat_map}
use Rattle.net_graph.specs.Keys.{lists_of}
use Rattle.net_graph.specs.Steps.{walked, IsFew}
use Rattle.net_graph.specs.Visits.{pattern_visits, traffic_visits}
use Rattle.net_graph.proofs.seen.Seen.traffic.Given as goal

abbrev pub invariant-loop-attribute : goal.invariant-loop-attribute
invariant-loop-attribute l = record {
  walk : walked l.frequency l.initial.self (traffic_visits l.net l.list) ≡
      walked l.frequency l.self (flat_map (pattern_visits l.net) (lists_of (codes "pattern") (drop l.attribute-index l.attribute-items)));
  few : IsFew l.self;
}
