use Rattle.std.proofs.Common.{◌≡◌, ◌++◌}
use Rattle.std.specs.List.{flat_map}
use Rattle.net_graph.specs.Networks.{numbers}
use Rattle.net_layout.specs.Wiring.{wires_from}
use Rattle.net_layout.proofs.wiring.push_between.Given as goal

abbrev pub invariant-loop-place : goal.invariant-loop-place
invariant-loop-place l = l.wires.items ≡ l.fn.wires.items ++ flat_map (wires_from l.network l.link l.attached) (numbers l.place)
