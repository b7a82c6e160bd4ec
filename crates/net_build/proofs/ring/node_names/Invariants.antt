use Rattle.std.proofs.Common.{◌≡◌, map, decimal}
use Rattle.std.specs.List.{range_with_len}
use Rattle.net_build.proofs.ring.node_names.Given as goal

abbrev pub invariant-loop-node : goal.invariant-loop-node
invariant-loop-node l = l.names.items ≡ map decimal (range_with_len 0 l.node)
