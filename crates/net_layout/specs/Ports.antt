-- The interfaces of each host in order, its in-channels, and the out-channels of each interface.
use Rattle.std.specs.Prelude.{ℕ, ◌+◌, ◌-◌, ◌==◌, List, [], ◌∷◌, ◌++◌, length, map, take, replicate, Option, Some, None, if◌then◌else◌}
use Rattle.std.specs.Option.{unwrap_or}
use Rattle.std.specs.List.{flat_map, range_with_len, enumerate_from}
use Rattle.net_graph.specs.declared.rows.Network.{Network}
use Rattle.net_graph.specs.declared.rows.Down.{Down}
use Rattle.net_graph.specs.Networks.{numbers, link_at, attachment_of}
use Rattle.net_layout.specs.Addresses.{interface_address}
use Rattle.net_layout.specs.Arms.{first_interface}
use Rattle.net_layout.specs.Wiring.{in_channel, poke_channel, wires_of}
use Rattle.net_layout.specs.Gathered.{AreGathered}
use Rattle.net_layout.specs.declared.wiring.Wire.{Wire}

-- how many interfaces a host has
abbrev pub port_count : Network → ℕ → ℕ
port_count network h = first_interface network (h + 1) - first_interface network h

-- the interfaces of a host, in order
abbrev pub ports_of : Network → ℕ → List ℕ
ports_of network h = range_with_len (first_interface network h) (port_count network h)

-- the in-channels of a host: those of its interfaces, and then the one by which it is poked
abbrev pub ins_of : Network → ℕ → List ℕ
ins_of network h = map (in_channel network) (ports_of network h) ++ poke_channel network h ∷ []

-- a host, once for each of its in-channels
abbrev pub owners_in : Network → ℕ → List ℕ
owners_in network h = replicate (port_count network h + 1) h

-- the host of each in-channel, of those of the hosts below a number
unfoldable pub owners_before : Network → ℕ → List ℕ
owners_before network h = flat_map (owners_in network) (numbers h)

-- the host of each in-channel
abbrev pub owners_of : Network → List ℕ
owners_of network = owners_before network (length network.hosts)

-- an interface sends on the channels of the wires whose sender it is, to the addresses of their receivers
abbrev pub out_between : Network → ℕ → ℕ → Option (ℕ × ℕ) → List (ℕ × ℕ)
out_between network i channel None = []
out_between network i channel (Some ends) = if ends.0 == i then (unwrap_or (interface_address network ends.1) 0, channel) ∷ [] else []

-- a wire with its number, which is that of its out-channel
abbrev pub out_by : Network → ℕ → (ℕ × Wire) → List (ℕ × ℕ)
out_by network i numbered = out_between network i numbered.0 numbered.1.interfaces

-- the address of each other attachment of an interface's link, and the out-channel to it
unfoldable pub outs_of : Network → ℕ → List (ℕ × ℕ)
outs_of network i = flat_map (out_by network i) (enumerate_from 0 (wires_of network))

-- what each interface sends on, as far as the wires below a number tell
abbrev pub AreOuts : Network → ℕ → List (List (ℕ × ℕ)) → Type 0
AreOuts network number outs = AreGathered (λ i. flat_map (out_by network i)) (length network.interfaces) (take number (enumerate_from 0 (wires_of network))) outs

abbrev pub span_of : Down → (ℕ × ℕ)
span_of down = (down.from, down.to)

abbrev pub downs_at : Network → Option (ℕ × ℕ) → List (ℕ × ℕ)
downs_at network None = []
downs_at network (Some at) = map span_of (link_at network at.0).downs

-- when the link of an interface is down: from the one tick on and before the other
abbrev pub downs_of : Network → ℕ → List (ℕ × ℕ)
downs_of network i = downs_at network (attachment_of network i)
