-- What every network of a resolved tree meets.
use Rattle.std.specs.Prelude.{ℕ, ◌≡◌, ◌^◌, ◌<◌, ◌≤◌, false, List, [], length, map, sum_by, slice_index, slice_index_or, All, EachIndex, Option, Some, None, IsSome}
use Rattle.std.specs.Option.{ForSome, option_map}
use Rattle.std.specs.List.{range_with_len}
use Rattle.std.specs.List.Sorted.{IsNonDecreasingBy}
use Rattle.sim_base.specs.declared.records.ServerRow.{ServerRow}
use Rattle.sim_base.specs.Traffic.{IsTcp, IsClient}
use Rattle.ip_blocks.specs.declared.layout.LinkSize.{LinkSize}
use Rattle.ip_blocks.specs.declared.layout.NetParent.{NetParent}
use Rattle.ip_blocks.specs.Blocks.{IsLayout}
use Rattle.net_graph.specs.declared.rows.Network.{Network}
use Rattle.net_graph.specs.declared.rows.NetRow.{NetRow}
use Rattle.net_graph.specs.declared.rows.HostRow.{HostRow}
use Rattle.net_graph.specs.declared.rows.Gateway.{Gateway}
use Rattle.net_graph.specs.declared.rows.InterfaceRow.{InterfaceRow}
use Rattle.net_graph.specs.declared.rows.LinkRow.{LinkRow}
use Rattle.net_graph.specs.declared.rows.Down.{Down}
use Rattle.net_graph.specs.declared.rows.SessionRow.{SessionRow}
use Rattle.net_graph.specs.declared.rows.SessionKind.{SessionKind}
use Rattle.net_graph.specs.declared.rows.SessionKind.TheVariants.{Silent, Ospf, Tcp, Client, Server}

-- the rows of these numbers; what stands past the end has no meaning
abbrev pub no_host : HostRow
no_host = record { net = 0; id = 0; router = false; ospf = false; gateway = None; tcp = record { iss = 0; mss = 0; receive = 0; send = 0; tries = 0; msl = 0; frequency = 0 } }

abbrev pub no_interface : InterfaceRow
no_interface = record { host = 0; id = 0; bitrate = 0; latency = 0; buffer = 0; cost = 0; link = None }

abbrev pub no_link : LinkRow
no_link = record { net = 0; order = 0; delay = 0; attached = []; priority = 0; downs = [] }

abbrev pub no_net : NetRow
no_net = record { parent = None; order = 0; ids = [] }

abbrev pub host_at : Network → ℕ → HostRow
host_at network h = slice_index_or network.hosts h no_host

abbrev pub interface_at : Network → ℕ → InterfaceRow
interface_at network i = slice_index_or network.interfaces i no_interface

abbrev pub link_at : Network → ℕ → LinkRow
link_at network l = slice_index_or network.links l no_link

abbrev pub net_at : Network → ℕ → NetRow
net_at network n = slice_index_or network.nets n no_net

-- the numbers below n
abbrev pub numbers : ℕ → List ℕ
numbers n = range_with_len 0 n

-- the link on which an interface lies, and the interface's place among its attachments
abbrev pub attachment_of : Network → ℕ → Option (ℕ × ℕ)
attachment_of network i = (interface_at network i).link

abbrev pub link_of : Network → ℕ → Option ℕ
link_of network i = option_map (λ (at : ℕ × ℕ). at.0) (attachment_of network i)

-- the links and Nets as the blocks of addresses want them
abbrev pub link_size : LinkRow → LinkSize
link_size link = record { net = link.net; order = link.order; attachments = length link.attached }

abbrev pub net_parent : NetRow → NetParent
net_parent net = record { parent = net.parent; order = net.order }

abbrev pub link_sizes : Network → List LinkSize
link_sizes network = map link_size network.links

abbrev pub net_parents : Network → List NetParent
net_parents network = map net_parent network.nets

-- an id of a Net, a host or an interface
abbrev pub IsId : ℕ → Type 0
IsId id = id < 2 ^ 31

-- at most 65,536 Nets, hosts with routers, links and servers of patterns, 131,072 interfaces,
-- 262,144 sessions and 64 downs
pub record IsSmall (network : Network) : Type 0 where
  pub nets : length network.nets ≤ 65536
  pub hosts : length network.hosts ≤ 65536
  pub interfaces : length network.interfaces ≤ 131072
  pub links : length network.links ≤ 65536
  pub sessions : length network.sessions ≤ 262144
  pub servers : length network.servers ≤ 65536
  pub downs : sum_by (λ (link : LinkRow). length link.downs) network.links ≤ 64

-- a default route leaves by an interface of the host, and its next hop lies on the same link
pub record IsGateway (network : Network) (host : ℕ) (gateway : Gateway) : Type 0 where
  pub there : gateway.interface < length network.interfaces
  pub own : (interface_at network gateway.interface).host ≡ host
  pub next_there : ForSome gateway.next (λ next. next < length network.interfaces)
  pub next_attached : ForSome gateway.next (λ next. IsSome (attachment_of network next))
  pub next_on_link : ForSome gateway.next (λ next. link_of network next ≡ link_of network gateway.interface)

pub record IsHost (network : Network) (number : ℕ) (host : HostRow) : Type 0 where
  pub net : host.net < length network.nets
  pub id : IsId host.id
  pub gateway : ForSome host.gateway (IsGateway network number)
  pub tcp : IsTcp network.frequency host.tcp

-- where a link attaches an interface, it is the attachment at that place of the link
pub record IsInterface (network : Network) (number : ℕ) (interface : InterfaceRow) : Type 0 where
  pub host : interface.host < length network.hosts
  pub id : IsId interface.id
  pub bitrate : (1 ≤ interface.bitrate) × (interface.bitrate ≤ 10 ^ 12)
  pub latency : interface.latency ≤ 10 ^ 18
  pub buffer : (1 ≤ interface.buffer) × (interface.buffer ≤ 2 ^ 31)
  pub cost : (1 ≤ interface.cost) × (interface.cost ≤ 65535)
  pub link : ForSome interface.link (λ (at : ℕ × ℕ). at.0 < length network.links)
  pub place : ForSome interface.link (λ (at : ℕ × ℕ). at.1 < length (link_at network at.0).attached)
  pub attached : ForSome interface.link (λ (at : ℕ × ℕ). slice_index (link_at network at.0).attached at.1 ≡ number)

-- the attachments of a link, 1 to 131,072, are interfaces that say so
pub record IsLink (network : Network) (number : ℕ) (link : LinkRow) : Type 0 where
  pub delay : link.delay ≤ 10 ^ 18
  pub priority : link.priority < 2 ^ 8
  pub some : 1 ≤ length link.attached
  pub few : length link.attached ≤ 131072
  pub there : All (λ i. i < length network.interfaces) link.attached
  pub attached : EachIndex link.attached (λ k. attachment_of network (slice_index link.attached k) ≡ Some (number, k))
  pub downs : All (λ (down : Down). (down.from < down.to) × (down.to ≤ 10 ^ 18)) link.downs

abbrev pub IsKind : SessionKind → Type 0
IsKind Silent = Unit {0}
IsKind Ospf = Unit {0}
IsKind Tcp = Unit {0}
IsKind (Client client) = IsClient client
IsKind (Server port) = 1 ≤ port

pub record IsSession (network : Network) (session : SessionRow) : Type 0 where
  pub host : session.host < length network.hosts
  pub kind : IsKind session.kind

pub record IsServer (network : Network) (server : ServerRow) : Type 0 where
  pub client : server.client < length network.hosts
  pub interface : server.interface < length network.interfaces
  pub attached : IsSome (attachment_of network server.interface)
  pub port : 1 ≤ server.port

-- Net 0 alone has no parent, each other Net one of a smaller number; the orders of the links and
-- nested Nets of one Net differ; the interfaces stand host by host; and all numbers are in range
pub record IsNetwork (network : Network) : Type 0 where
  pub small : IsSmall network
  pub frequency : (1 ≤ network.frequency) × (network.frequency ≤ 10 ^ 12)
  pub layout : IsLayout (link_sizes network) (net_parents network)
  pub ids : All (λ (net : NetRow). All IsId net.ids) network.nets
  pub hosts : EachIndex network.hosts (λ h. IsHost network h (host_at network h))
  pub host_by_host : IsNonDecreasingBy (λ (i : InterfaceRow). i.host) network.interfaces
  pub interfaces : EachIndex network.interfaces (λ i. IsInterface network i (interface_at network i))
  pub links : EachIndex network.links (λ l. IsLink network l (link_at network l))
  pub sessions : All (IsSession network) network.sessions
  pub servers : All (IsServer network) network.servers
