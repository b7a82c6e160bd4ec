use Rattle.std.proofs.Common.{◌≡◌, ◌++◌, map}
use Rattle.net_graph.specs.Networks.{numbers}
use Rattle.net_layout.specs.Wiring.{poke_wire}
use Rattle.net_layout.proofs.wiring.push_pokes.Given as goal

abbrev pub invariant-loop-number : goal.invariant-loop-number
invariant-loop-number l = l.wires.items ≡ l.fn.wires.items ++ map (poke_wire l.network) (numbers l.number)
