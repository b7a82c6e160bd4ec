use Rattle.std.proofs.Common.{◌≡◌, ◌++◌, map, length}
use Rattle.std.specs.List.{flat_map}
use Rattle.net_graph.specs.Networks.{numbers}
use Rattle.net_layout.specs.Wiring.{poke_wire, wires_of_link}
use Rattle.net_layout.proofs.wiring.wires.Given as goal

abbrev pub invariant-loop-link : goal.invariant-loop-link
invariant-loop-link l = l.wires.items ≡ map (poke_wire l.network) (numbers (length l.network.hosts)) ++ flat_map (wires_of_link l.network) (numbers l.link)
