use Rattle.std.proofs.Common.{◌≡◌}
use Rattle.std.specs.List.{flat_map}
use Rattle.net_graph.specs.Networks.{numbers}
use Rattle.net_layout.specs.Arms.{arm_of}
use Rattle.net_layout.proofs.arms.arms.Given as goal

abbrev pub invariant-loop-interface : goal.invariant-loop-interface
invariant-loop-interface l = l.arms.items ≡ flat_map (arm_of l.network l.tick) (numbers l.interface)
