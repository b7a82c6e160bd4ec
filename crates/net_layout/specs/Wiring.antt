-- The channels and mappings of a network's plan. Channels are numbered from 0: the start channels of
-- the hosts; their timer channels, host by host, one for the clock and one for each client session;
-- then those of the mappings. In-channels are numbered host by host: one for each interface, then
-- the poke. Each mapping has an out-channel of its own, of the mapping's number.
use Rattle.std.specs.Prelude.{ℕ, ◌+◌, ◌*◌, ◌^◌, ◌≤◌, Bool, true, false, List, [], ◌∷◌, ◌++◌, length, map, slice_index, count_by, Some, None}
use Rattle.std.specs.List.{flat_map, remove}
use Rattle.net_graph.specs.declared.rows.Network.{Network}
use Rattle.net_graph.specs.declared.rows.SessionRow.{SessionRow}
use Rattle.net_graph.specs.declared.rows.SessionKind.{SessionKind}
use Rattle.net_graph.specs.declared.rows.SessionKind.TheVariants.{Silent, Ospf, Tcp, Client, Server}
use Rattle.ssf_model.specs.declared.plan.Mapping.{Mapping}
use Rattle.net_graph.specs.Networks.{numbers, interface_at, link_at}
use Rattle.net_layout.specs.Arms.{first_interface}
use Rattle.net_layout.specs.declared.wiring.Wire.{Wire}

-- the in-channel of an interface: the interfaces before it stand before it, and a poke of each host before its own
abbrev pub in_channel : Network → ℕ → ℕ
in_channel network i = i + (interface_at network i).host

-- the in-channel by which a host is poked, behind those of its interfaces
abbrev pub poke_channel : Network → ℕ → ℕ
poke_channel network h = first_interface network (h + 1) + h

-- a host pokes itself, by no interface
abbrev pub poke_wire : Network → ℕ → Wire
poke_wire network h = record { from = h; to = h; interfaces = None; in_channel = poke_channel network h; latency = 0; delay = 0; priority = 0 }

-- from an attachment of a link to another: the channel's delay is the one's latency, the mapping's that of the link
abbrev pub link_wire : Network → ℕ → ℕ → ℕ → Wire
link_wire network l a b = record {
  from = (interface_at network a).host;
  to = (interface_at network b).host;
  interfaces = Some (a, b);
  in_channel = in_channel network b;
  latency = (interface_at network a).latency;
  delay = (link_at network l).delay;
  priority = (link_at network l).priority;
}

-- from the attachment at one place of a link to each other one
abbrev pub wires_from : Network → ℕ → List ℕ → ℕ → List Wire
wires_from network l attached place = map (link_wire network l (slice_index attached place)) (remove attached place)

abbrev pub wires_between : Network → ℕ → List ℕ → List Wire
wires_between network l attached = flat_map (wires_from network l attached) (numbers (length attached))

unfoldable pub wires_of_link : Network → ℕ → List Wire
wires_of_link network l = wires_between network l (link_at network l).attached

-- the pokes of all hosts, and then what each link joins
unfoldable pub wires_of : Network → List Wire
wires_of network = map (poke_wire network) (numbers (length network.hosts)) ++ flat_map (wires_of_link network) (numbers (length network.links))

-- latencies and delays of a network are at most 10^18 ticks
abbrev pub IsShortWire : Wire → Type 0
IsShortWire wire = (wire.latency ≤ 10 ^ 18) × (wire.delay ≤ 10 ^ 18)

abbrev pub is_client_kind : SessionKind → Bool
is_client_kind Silent = false
is_client_kind Ospf = false
is_client_kind Tcp = false
is_client_kind (Client client) = true
is_client_kind (Server port) = false

abbrev pub is_client : SessionRow → Bool
is_client session = is_client_kind session.kind

-- the start and timer channels: two of each host, and one of each client session
unfoldable pub first_channel : Network → ℕ
first_channel network = 2 * length network.hosts + count_by is_client network.sessions

abbrev pub mapping_of : ℕ → ℕ → Wire → Mapping
mapping_of first number wire = record {
  channel = first + number;
  out_channel = number;
  in_channel = wire.in_channel;
  from = wire.from;
  to = wire.to;
  delay = wire.latency + wire.delay;
  priority = wire.priority;
}

-- these wires as mappings, from this number on
abbrev pub mappings_from : ℕ → ℕ → List Wire → List Mapping
mappings_from first number [] = []
mappings_from first number (wire ∷ wires) = mapping_of first number wire ∷ mappings_from first (number + 1) wires

unfoldable pub mappings_of : Network → List Mapping
mappings_of network = mappings_from (first_channel network) 0 (wires_of network)
