use Rattle.std.proofs.Common.{◌≡◌, ◌-◌}
use Rattle.std.specs.List.{flat_map, range_with_len}
use Rattle.net_graph.specs.Steps.{walked, IsFew}
use Rattle.net_graph.specs.Visits.{host_copy}
use Rattle.net_graph.proofs.seen.Seen.host_copies.Given as goal

abbrev pub invariant-loop-id : goal.invariant-loop-id
invariant-loop-id l = record {
  walk : walked l.frequency l.initial.self (flat_map (host_copy l.frequency l.router l.net l.list l.gateway) (range_with_len l.initial.id (l.id-end - l.initial.id))) ≡
      walked l.frequency l.self (flat_map (host_copy l.frequency l.router l.net l.list l.gateway) (range_with_len l.id (l.id-end - l.id)));
  few : IsFew l.self;
}
