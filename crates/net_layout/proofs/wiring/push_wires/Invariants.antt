use Rattle.std.proofs.Common.{◌≡◌, ◌++◌, map, take}
use Rattle.net_layout.specs.Wiring.{link_wire}
use Rattle.net_layout.proofs.wiring.push_wires.Given as goal

abbrev pub invariant-loop-other : goal.invariant-loop-other
invariant-loop-other l = l.wires.items ≡ l.fn.wires.items ++ map (link_wire l.network l.link l.from) (take l.other-index l.others)
