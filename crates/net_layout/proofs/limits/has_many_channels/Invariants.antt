use Rattle.std.proofs.Common.{◌≡◌, ◌+◌, ◌≤◌, length}
use Rattle.std.specs.List.{flat_map}
use Rattle.net_graph.specs.Networks.{numbers}
use Rattle.net_layout.specs.Wiring.{wires_of_link, first_channel}
use Rattle.net_layout.proofs.limits.has_many_channels.Given as goal

abbrev pub invariant-loop-link : goal.invariant-loop-link
invariant-loop-link l = record {
  counted : l.count ≡ first_channel l.network + (length l.network.hosts + length (flat_map (wires_of_link l.network) (numbers l.link)));
  few : l.count ≤ 524288;
}
