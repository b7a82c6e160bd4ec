-- The network of a resolved tree: what the walk over its Net met, with the addresses that its parts name looked up.
use Rattle.std.specs.Prelude.{ℕ, Bool, true, false, ◌+◌, ◌&&◌, nat_eq, List, [], ◌∷◌, ◌++◌, length, map, position, Option, Some, None, Ok, Err, codes, is_some, if◌then◌else◌}
use Rattle.std.specs.List.{list_any}
use Rattle.std.specs.Option.{unwrap_or}
use Rattle.dml_tree.specs.declared.tree.Attribute.{Attribute}
use Rattle.dml_tree.specs.Attributes.{Attributes}
use Rattle.dml_tree.specs.TreeView.{attributes}
use Rattle.nhi_address.specs.NhiFields.{NhiFields}
use Rattle.sim_base.specs.declared.records.TcpConfig.{TcpConfig}
use Rattle.sim_base.specs.declared.records.ServerRow.{ServerRow}
use Rattle.net_graph.specs.declared.fault.ShapeFault.{ShapeFault}
use Rattle.net_graph.specs.declared.fault.ShapeFault.TheVariants.{NoModel, UnknownNhi, AttachedTwice}
use Rattle.net_graph.specs.declared.rows.Network.{Network}
use Rattle.net_graph.specs.declared.rows.HostRow.{HostRow}
use Rattle.net_graph.specs.declared.rows.Gateway.{Gateway}
use Rattle.net_graph.specs.declared.rows.InterfaceRow.{InterfaceRow}
use Rattle.net_graph.specs.declared.rows.LinkRow.{LinkRow}
use Rattle.net_graph.specs.declared.rows.SessionRow.{SessionRow}
use Rattle.net_graph.specs.declared.rows.SessionKind.{SessionKind}
use Rattle.net_graph.specs.declared.rows.SessionKind.TheVariants as kind
use Rattle.net_graph.specs.declared.list_keys.GatewayKeys.{GatewayKeys}
use Rattle.net_graph.specs.declared.list_keys.SessionKeys.{SessionKeys}
use Rattle.net_graph.specs.declared.list_keys.SessionKeys.TheVariants as keys
use Rattle.net_graph.specs.declared.seen.HostSeen.{HostSeen}
use Rattle.net_graph.specs.declared.seen.LinkSeen.{LinkSeen}
use Rattle.net_graph.specs.declared.seen.SessionSeen.{SessionSeen}
use Rattle.net_graph.specs.declared.seen.TrafficSeen.{TrafficSeen}
use Rattle.net_graph.specs.declared.seen.TrafficSeen.TheVariants as traffic
use Rattle.net_graph.specs.declared.seen.Seen.{Seen}
use Rattle.net_graph.specs.Keys.{lists_of, first_of}
use Rattle.net_graph.specs.Names.{same}
use Rattle.net_graph.specs.Reads.{Read, then_read}
use Rattle.net_graph.specs.ListKeys.{frequency_of, default_tcp}
use Rattle.net_graph.specs.SeenRows.{first_some, fault_if}
use Rattle.net_graph.specs.Visits.{walk}
use Rattle.net_graph.specs.WalkedNets.{seen_by}

abbrev pub is_ospf_kind : SessionKeys → Bool
is_ospf_kind keys.Ospf = true
is_ospf_kind _ = false

abbrev pub tcp_or : SessionKeys → TcpConfig → TcpConfig
tcp_or (keys.Tcp settings) rest = settings
tcp_or _ rest = rest

abbrev pub kind_of : SessionKeys → SessionKind
kind_of keys.Silent = kind.Silent
kind_of keys.Ospf = kind.Ospf
kind_of (keys.Tcp settings) = kind.Tcp
kind_of (keys.Client row) = kind.Client row
kind_of (keys.Server port) = kind.Server port

-- after the walk: addresses are looked up

abbrev pub host_by_ids : Seen → List ℕ → Option ℕ
host_by_ids seen ids = position (same ids) seen.host_names

abbrev pub first_interface : Seen → Option ℕ → Option ℕ
first_interface seen None = None
first_interface seen (Some h) = position (λ row. nat_eq row.host h) seen.interfaces

-- the interface of a full NHI; without one that of the host's first interface
abbrev pub interface_by_nhi : Seen → NhiFields → Option ℕ → Option ℕ
interface_by_nhi seen nhi None = first_interface seen (host_by_ids seen nhi.ids)
interface_by_nhi seen nhi (Some id) = position (same (nhi.ids ++ id ∷ [])) seen.interface_names

abbrev pub full : List ℕ → NhiFields → NhiFields
full path nhi = record { ids = path ++ nhi.ids; interface = nhi.interface }

-- an attachment: the link's number, the place there, the full NHI, and the interface
pub record Attachment : Type 0 where
  pub link : ℕ
  pub place : ℕ
  pub nhi : NhiFields
  pub interface : Option ℕ

abbrev pub attachments_of : Seen → ℕ → List ℕ → ℕ → List NhiFields → List Attachment
attachments_of seen number path place [] = []
attachments_of seen number path place (nhi ∷ nhis) =
    record { link = number; place = place; nhi = full path nhi; interface = interface_by_nhi seen (full path nhi) nhi.interface } ∷ attachments_of seen number path (place + 1) nhis

abbrev pub attachments_from : Seen → ℕ → List LinkSeen → List Attachment
attachments_from seen number [] = []
attachments_from seen number (l ∷ ls) = attachments_of seen number l.path 0 l.keys.attached ++ attachments_from seen (number + 1) ls

abbrev pub attachments : Seen → List Attachment
attachments seen = attachments_from seen 0 seen.links

abbrev pub same_number : Option ℕ → ℕ → Bool
same_number None n = false
same_number (Some m) n = nat_eq m n

abbrev pub is_at : ℕ → Attachment → Bool
is_at n a = same_number a.interface n

abbrev pub attachment_fault : List Attachment → NhiFields → Option ℕ → Option ShapeFault
attachment_fault before nhi None = Some (UnknownNhi nhi)
attachment_fault before nhi (Some n) = fault_if (list_any (is_at n) before) (AttachedTwice nhi)

abbrev pub attachments_fault : List Attachment → List Attachment → Option ShapeFault
attachments_fault before [] = None
attachments_fault before (a ∷ more) = first_some (attachment_fault before a.nhi a.interface) (attachments_fault (before ++ a ∷ []) more)

-- where an interface is attached
abbrev pub attached_at : List Attachment → ℕ → Option (ℕ × ℕ)
attached_at [] n = None
attached_at (a ∷ more) n = if is_at n a then Some (a.link, a.place) else attached_at more n

abbrev pub same_link : Option (ℕ × ℕ) → Option (ℕ × ℕ) → Bool
same_link None b = false
same_link (Some a) None = false
same_link (Some a) (Some b) = nat_eq a.0 b.0

-- a gateway: its interface, and a next hop on the same link

abbrev pub next_at : List Attachment → NhiFields → ℕ → Option ℕ → Read Gateway
next_at all nhi interface None = Err (UnknownNhi nhi)
next_at all nhi interface (Some next) =
    if same_link (attached_at all interface) (attached_at all next) then Ok (record { interface = interface; next = Some next }) else Err (UnknownNhi nhi)

abbrev pub gateway_next : Seen → List Attachment → List ℕ → ℕ → Option NhiFields → Read Gateway
gateway_next seen all path interface None = Ok (record { interface = interface; next = None })
gateway_next seen all path interface (Some nhi) = next_at all (full path nhi) interface (interface_by_nhi seen (full path nhi) nhi.interface)

-- the address of an interface of this host
abbrev pub own_address : HostSeen → ℕ → NhiFields
own_address h id = record { ids = h.path ++ h.id ∷ []; interface = Some id }

abbrev pub gateway_on : Seen → List Attachment → HostSeen → GatewayKeys → Option ℕ → Read Gateway
gateway_on seen all h k None = Err (UnknownNhi (own_address h k.interface))
gateway_on seen all h k (Some interface) = gateway_next seen all h.path interface k.next

abbrev pub gateway_row : Seen → List Attachment → HostSeen → Option GatewayKeys → Read (Option Gateway)
gateway_row seen all h None = Ok None
gateway_row seen all h (Some k) = then_read (gateway_on seen all h k (interface_by_nhi seen (own_address h k.interface) (Some k.interface))) (λ g. Ok (Some g))

abbrev pub is_ospf : ℕ → SessionSeen → Bool
is_ospf h s = nat_eq s.host h && is_ospf_kind s.keys

abbrev pub tcp_in : ℕ → ℕ → List SessionSeen → TcpConfig
tcp_in frequency h [] = default_tcp frequency
tcp_in frequency h (s ∷ ss) = if nat_eq s.host h then tcp_or s.keys (tcp_in frequency h ss) else tcp_in frequency h ss

abbrev pub host_rows : ℕ → Seen → List Attachment → ℕ → List HostSeen → Read (List HostRow)
host_rows frequency seen all number [] = Ok []
host_rows frequency seen all number (h ∷ hs) =
    then_read (gateway_row seen all h h.gateway) (λ gateway.
    then_read (host_rows frequency seen all (number + 1) hs) (λ rows.
    Ok (record { net = h.net; id = h.id; router = h.router; ospf = list_any (is_ospf number) seen.sessions; gateway = gateway; tcp = tcp_in frequency number seen.sessions } ∷ rows)))

-- patterns: a client that is there, and servers at attached interfaces

abbrev pub client_at : NhiFields → Option ℕ → Read ℕ
client_at nhi None = Err (UnknownNhi nhi)
client_at nhi (Some h) = Ok h

abbrev pub server_at : List Attachment → ℕ → NhiFields → ℕ → Option ℕ → Read ServerRow
server_at all client nhi port None = Err (UnknownNhi nhi)
server_at all client nhi port (Some interface) =
    if is_some (attached_at all interface) then Ok (record { client = client; interface = interface; port = port }) else Err (UnknownNhi nhi)

-- the servers of the patterns, where the pattern that came last has this client
abbrev pub server_rows : Seen → List Attachment → ℕ → List TrafficSeen → Read (List ServerRow)
server_rows seen all client [] = Ok []
server_rows seen all client (traffic.Pattern p ∷ more) =
    then_read (client_at (full p.path p.client) (host_by_ids seen (p.path ++ p.client.ids))) (λ next. server_rows seen all next more)
server_rows seen all client (traffic.Server s ∷ more) =
    then_read (server_at all client (full s.path s.keys.nhi) s.keys.port (interface_by_nhi seen (full s.path s.keys.nhi) s.keys.nhi.interface)) (λ row.
    then_read (server_rows seen all client more) (λ rows. Ok (row ∷ rows)))

-- the rows that name no other part by its address

abbrev pub linked : List Attachment → ℕ → List InterfaceRow → List InterfaceRow
linked all number [] = []
linked all number (row ∷ rows) = record row { link = attached_at all number } ∷ linked all (number + 1) rows

abbrev pub attached_numbers : ℕ → List Attachment → List ℕ
attached_numbers number [] = []
attached_numbers number (a ∷ more) = if nat_eq a.link number then unwrap_or a.interface 0 ∷ attached_numbers number more else attached_numbers number more

abbrev pub link_rows : List Attachment → ℕ → List LinkSeen → List LinkRow
link_rows all number [] = []
link_rows all number (l ∷ ls) = record {
  net = l.net;
  order = l.order;
  delay = l.keys.delay;
  attached = attached_numbers number all;
  priority = l.keys.priority;
  downs = l.keys.downs;
} ∷ link_rows all (number + 1) ls

abbrev pub session_row : SessionSeen → SessionRow
session_row s = record { host = s.host; kind = kind_of s.keys }

-- the network of what the walk met

abbrev pub rows_with : ℕ → Seen → List Attachment → Option ShapeFault → Read Network
rows_with frequency seen all (Some fault) = Err fault
rows_with frequency seen all None =
    then_read (host_rows frequency seen all 0 seen.hosts) (λ hosts.
    then_read (server_rows seen all 0 seen.traffic) (λ servers.
    Ok (record {
      frequency = frequency;
      patterns = length servers;
      nets = seen.nets;
      hosts = hosts;
      interfaces = linked all 0 seen.interfaces;
      links = link_rows all 0 seen.links;
      sessions = map session_row seen.sessions;
      servers = servers;
    })))

abbrev pub rows_of : ℕ → Seen → Read Network
rows_of frequency seen = let all = attachments seen in rows_with frequency seen all (attachments_fault [] all)

abbrev pub net_network : Attributes → Read Network
net_network tree = then_read (frequency_of (attributes tree)) (λ frequency. then_read (seen_by frequency (walk frequency tree)) (rows_of frequency))

abbrev pub network_or : Option Attributes → Read Network
network_or None = Err NoModel
network_or (Some tree) = net_network tree

-- the network of a resolved tree, or its first fault
abbrev pub network_of : List Attribute → Read Network
network_of root = network_or (first_of (lists_of (codes "Net") root))
