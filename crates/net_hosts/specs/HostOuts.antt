-- The out-channels of each host.
use Rattle.std.specs.Prelude.{ℕ, ◌==◌, List, Option, Some, None, if◌then◌else◌}
use Rattle.std.specs.List.{filter_map, enumerate_from}
use Rattle.net_graph.specs.declared.rows.Network.{Network}
use Rattle.net_layout.specs.declared.wiring.Wire.{Wire}
use Rattle.net_layout.specs.Wiring.{wires_of}

-- the number of a wire, which is that of its out-channel, where the wire leads from this host
abbrev pub number_from : ℕ → (ℕ × Wire) → Option ℕ
number_from h numbered = if numbered.1.from == h then Some numbered.0 else None

-- the numbers of those of these wires that lead from a host
abbrev pub outs_in : List Wire → ℕ → List ℕ
outs_in wires h = filter_map (number_from h) (enumerate_from 0 wires)

-- the out-channels of a host: those of the wires that lead from it
unfoldable pub host_outs : Network → ℕ → List ℕ
host_outs network h = outs_in (wires_of network) h
