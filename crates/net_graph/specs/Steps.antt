-- How what the walk has met grows visit by visit. Of this file a public clause cites only `IsFew`: the rest is the form
-- in which the walk is proved, and proofs show that it says the same as WalkedNets.
use Rattle.std.specs.Prelude.{ℕ, Bool, true, false, ◌≡◌, ◌+◌, ◌≤◌, ◌||◌, List, [], ◌∷◌, ◌++◌, length, Option, Some, None, Ok, Err, codes}
use Rattle.std.specs.List.{All, count_by}
use Rattle.std.specs.Option.{ForSome}
use Rattle.dml_tree.specs.declared.tree.Attribute.{Attribute}
use Rattle.dml_tree.specs.declared.tree.Value.{Value}
use Rattle.dml_tree.specs.declared.tree.Value.TheVariants as value
use Rattle.dml_tree.specs.Attributes.{Attributes}
use Rattle.dml_tree.specs.TreeView.{attributes}
use Rattle.nhi_address.specs.NhiFields.{NhiFields, IsId}
use Rattle.net_graph.specs.declared.fault.ShapeFault.{ShapeFault}
use Rattle.net_graph.specs.declared.list_keys.GatewayKeys.{GatewayKeys}
use Rattle.net_graph.specs.declared.list_keys.InterfaceKeys.{InterfaceKeys}
use Rattle.net_graph.specs.declared.list_keys.LinkKeys.{LinkKeys}
use Rattle.net_graph.specs.declared.list_keys.ServerKeys.{ServerKeys}
use Rattle.net_graph.specs.declared.list_keys.SessionKeys.{SessionKeys}
use Rattle.net_graph.specs.declared.seen.HostSeen.{HostSeen}
use Rattle.net_graph.specs.declared.seen.Seen.{Seen}
use Rattle.net_graph.specs.declared.seen.TrafficSeen.{TrafficSeen}
use Rattle.net_graph.specs.declared.seen.TrafficSeen.TheVariants as traffic
use Rattle.net_graph.specs.Keys.{lists_of, first_of}
use Rattle.net_graph.specs.ListKeys.{link_keys, is_text}
use Rattle.net_graph.specs.Reads.{Read, then_read}
use Rattle.net_graph.specs.SeenRows.{top_row, nested_row, host_in, interface_in, session_in, link_in, downs_more, many, double_or_many, link_fault}
use Rattle.net_graph.specs.Visits.{Visit, unread, top_net, nested_net, a_host, an_interface, a_session, a_link, a_pattern, a_server, part_visits, net_parts, children, host_part}

abbrev pub empty : Seen
empty = record {
  nets = [];
  net_names = [];
  hosts = [];
  host_names = [];
  interfaces = [];
  interface_names = [];
  links = [];
  downs = 0;
  sessions = [];
  traffic = [];
  servers = 0;
}

-- what each kind of visit adds, and its faults

abbrev pub with_top : Seen → Seen
with_top w = record w { nets = w.nets ++ top_row ∷ []; net_names = w.net_names ++ [] ∷ [] }

abbrev pub net_fault : Seen → List ℕ → ℕ → Option ShapeFault
net_fault w parent id = double_or_many w.net_names (parent ++ id ∷ []) (record { ids = parent ++ id ∷ []; interface = None }) 65536 (codes "nets")

abbrev pub with_net : Seen → List ℕ → ℕ → ℕ → Seen
with_net w parent id order = record w { nets = w.nets ++ nested_row w.net_names parent id order ∷ []; net_names = w.net_names ++ (parent ++ id ∷ []) ∷ [] }

abbrev pub host_fault : Seen → List ℕ → ℕ → Option ShapeFault
host_fault w n id = double_or_many w.host_names (n ++ id ∷ []) (record { ids = n ++ id ∷ []; interface = None }) 65536 (codes "hosts")

abbrev pub with_host : Seen → List ℕ → ℕ → Bool → Option GatewayKeys → Seen
with_host w n id router gateway = record w { hosts = w.hosts ++ host_in w.net_names n id router gateway ∷ []; host_names = w.host_names ++ (n ++ id ∷ []) ∷ [] }

abbrev pub interface_fault : Seen → List ℕ → ℕ → Option ShapeFault
interface_fault w h id = double_or_many w.interface_names (h ++ id ∷ []) (record { ids = h; interface = Some id }) 131072 (codes "interfaces")

abbrev pub with_interface : Seen → List ℕ → ℕ → InterfaceKeys → Seen
with_interface w h id k = record w { interfaces = w.interfaces ++ interface_in w.host_names id k ∷ []; interface_names = w.interface_names ++ (h ++ id ∷ []) ∷ [] }

abbrev pub session_fault : Seen → Option ShapeFault
session_fault w = many (length w.sessions) 262144 (codes "sessions")

abbrev pub with_session : Seen → SessionKeys → Seen
with_session w k = record w { sessions = w.sessions ++ session_in w.host_names k ∷ [] }

abbrev pub added : {A : Type 0} → List A → Option A → List A
added xs None = xs
added xs (Some x) = xs ++ x ∷ []

abbrev pub link_many : Seen → Option ShapeFault
link_many w = many (length w.links) 65536 (codes "links")

abbrev pub with_link : Seen → List ℕ → ℕ → Read LinkKeys → Seen
with_link w n order k = record w { links = added w.links (link_in w.net_names n order k); downs = downs_more w.downs k }

abbrev pub with_pattern : Seen → List ℕ → NhiFields → Seen
with_pattern w n client = record w { traffic = w.traffic ++ traffic.Pattern (record { path = n; client = client }) ∷ [] }

abbrev pub server_fault : Seen → Option ShapeFault
server_fault w = many w.servers 65536 (codes "patterns")

abbrev pub with_server : Seen → List ℕ → ServerKeys → Seen
with_server w n k = record w { traffic = w.traffic ++ traffic.Server (record { path = n; keys = k }) ∷ []; servers = w.servers + 1 }

-- one visit: its fault, and else what there is after it

abbrev pub fault_in : ℕ → Seen → Visit → Option ShapeFault
fault_in frequency w (unread fault) = Some fault
fault_in frequency w top_net = None
fault_in frequency w (nested_net parent id order) = net_fault w parent id
fault_in frequency w (a_host n id router gateway) = host_fault w n id
fault_in frequency w (an_interface h id k) = interface_fault w h id
fault_in frequency w (a_session k) = session_fault w
fault_in frequency w (a_link n order x) = link_fault (link_keys frequency w.downs (attributes x)) (link_many w)
fault_in frequency w (a_pattern n client) = None
fault_in frequency w (a_server n k) = server_fault w

abbrev pub grown_by : ℕ → Seen → Visit → Seen
grown_by frequency w (unread fault) = w
grown_by frequency w top_net = with_top w
grown_by frequency w (nested_net parent id order) = with_net w parent id order
grown_by frequency w (a_host n id router gateway) = with_host w n id router gateway
grown_by frequency w (an_interface h id k) = with_interface w h id k
grown_by frequency w (a_session k) = with_session w k
grown_by frequency w (a_link n order x) = with_link w n order (link_keys frequency w.downs (attributes x))
grown_by frequency w (a_pattern n client) = with_pattern w n client
grown_by frequency w (a_server n k) = with_server w n k

abbrev pub or_fault : Option ShapeFault → Seen → Read Seen
or_fault (Some fault) w = Err fault
or_fault None w = Ok w

unfoldable pub visited : ℕ → Seen → Visit → Read Seen
visited frequency w v = or_fault (fault_in frequency w v) (grown_by frequency w v)

-- visits one after another, up to the first fault
unfoldable pub walked : ℕ → Seen → List Visit → Read Seen
walked frequency w [] = Ok w
walked frequency w (v ∷ vs) = then_read (visited frequency w v) (λ more. walked frequency more vs)

-- the ids that a host's address and its default route name are in their range
pub record HasIds (host : HostSeen) : Type 0 where
  pub own : IsId host.id
  pub gateway : ForSome host.gateway (λ (k : GatewayKeys). IsId k.interface)

abbrev pub is_server : TrafficSeen → Bool
is_server (traffic.Pattern p) = false
is_server (traffic.Server s) = true

-- at most 65,536 Nets, hosts, links and servers, 131,072 interfaces, each with a name, and 64 times
-- in which a link is down; the ids of hosts are in their range
pub record IsFew (w : Seen) : Type 0 where
  pub nets : length w.net_names ≤ 65536
  pub hosts : length w.host_names ≤ 65536
  pub links : length w.links ≤ 65536
  pub downs : w.downs ≤ 64
  pub interfaces : length w.interface_names ≤ 131072
  pub rows : length w.interfaces ≡ length w.interface_names
  pub ids : All HasIds w.hosts
  pub servers : w.servers ≤ 65536
  pub served : count_by is_server w.traffic ≡ w.servers

-- how many links and Nets there are
abbrev pub kids : Seen → ℕ
kids w = length w.net_names + length w.links

-- the visits of one attribute

-- the list that an attribute with this key holds
abbrev pub list_in : List ℕ → Attribute → Option Attributes
list_in key x = first_of (lists_of key (x ∷ []))

abbrev pub visits_of : (Attributes → List Visit) → Option Attributes → List Visit
visits_of f None = []
visits_of f (Some x) = f x

-- those of a Net's attribute, where so many links and Nets of it came before
abbrev pub value_visits : ℕ → List ℕ → ℕ → List ℕ → Value → List Visit
value_visits frequency net order key (value.Plain text) = []
value_visits frequency net order key (value.List x) = part_visits frequency net order key x (λ ids. net_parts frequency ids 0 x)

abbrev pub attribute_visits : ℕ → List ℕ → ℕ → Attribute → List Visit
attribute_visits frequency net order x = value_visits frequency net order x.key x.value

abbrev pub value_children : List ℕ → Value → ℕ
value_children key (value.Plain text) = 0
value_children key (value.List x) = children key x

abbrev pub attribute_children : Attribute → ℕ
attribute_children x = value_children x.key x.value

-- those of a host's attribute, where a list `graph` came before or not
abbrev pub host_value_visits : ℕ → List ℕ → Bool → List ℕ → Value → List Visit
host_value_visits frequency host met key (value.Plain text) = []
host_value_visits frequency host met key (value.List x) = host_part frequency host met key x

abbrev pub host_attribute_visits : ℕ → List ℕ → Bool → Attribute → List Visit
host_attribute_visits frequency host met x = host_value_visits frequency host met x.key x.value

abbrev pub value_is_graph : List ℕ → Value → Bool
value_is_graph key (value.Plain text) = false
value_is_graph key (value.List x) = is_text (codes "graph") key

abbrev pub met_after : Bool → Attribute → Bool
met_after met x = met || value_is_graph x.key x.value
