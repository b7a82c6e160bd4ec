-- The walk over the tree of a Net, as one list of what it meets: a list's own keys, and then, for each copy that its
-- ids make, the copy and its parts in written order.
use Rattle.std.specs.Prelude.{ℕ, Bool, true, false, ◌+◌, ◌-◌, ◌&&◌, ◌||◌, not, List, [], ◌∷◌, ◌++◌, Option, Ok, Err, codes, if◌then◌else◌}
use Rattle.std.specs.List.{flat_map, range_with_len}
use Rattle.dml_tree.specs.declared.tree.Attribute.{Attribute}
use Rattle.dml_tree.specs.Attributes.{Attributes, none, plain, list}
use Rattle.dml_tree.specs.TreeView.{attributes}
use Rattle.nhi_address.specs.NhiFields.{NhiFields}
use Rattle.nhi_address.specs.declared.nhi.IdRange.{IdRange}
use Rattle.net_graph.specs.declared.fault.ShapeFault.{ShapeFault}
use Rattle.net_graph.specs.declared.list_keys.InterfaceKeys.{InterfaceKeys}
use Rattle.net_graph.specs.declared.list_keys.GatewayKeys.{GatewayKeys}
use Rattle.net_graph.specs.declared.list_keys.ServerKeys.{ServerKeys}
use Rattle.net_graph.specs.declared.list_keys.SessionKeys.{SessionKeys}
use Rattle.net_graph.specs.Keys.{lists_of}
use Rattle.net_graph.specs.Reads.{Read, then_read}
use Rattle.net_graph.specs.ListKeys.{is_text, ids_at, interface_keys, gateway_of, session_keys, client_of, server_keys}

-- a Net is named by the ids of the Nets from the outermost nested one down to itself, the top Net by none
pub data Visit : Type 0 where
  -- a list whose keys have this fault
  unread : (fault : ShapeFault) → Visit
  top_net : Visit
  -- `order` is the place among the links and Nets of the parent
  nested_net : (parent : List ℕ) (id order : ℕ) → Visit
  a_host : (net : List ℕ) (id : ℕ) (router : Bool) (gateway : Option GatewayKeys) → Visit
  an_interface : (host : List ℕ) (id : ℕ) (keys : InterfaceKeys) → Visit
  a_session : (keys : SessionKeys) → Visit
  -- a link of this Net with these attributes
  a_link : (net : List ℕ) (order : ℕ) (link : Attributes) → Visit
  a_pattern : (net : List ℕ) (client : NhiFields) → Visit
  a_server : (net : List ℕ) (keys : ServerKeys) → Visit

-- what follows keys that were read, or their fault
abbrev pub on_read : {A : Type 0} → Read A → (A → List Visit) → List Visit
on_read (Err fault) next = unread fault ∷ []
on_read (Ok x) next = next x

-- the ids of a range, rising
abbrev pub ids_in : IdRange → List ℕ
ids_in range = range_with_len range.from (range.to + 1 - range.from)

abbrev pub session_visits : ℕ → Attributes → List Visit
session_visits frequency x = on_read (session_keys frequency (attributes x)) (λ keys. a_session keys ∷ [])

-- the sessions of a host's `graph`
abbrev pub graph_visits : ℕ → Attributes → List Visit
graph_visits frequency graph = flat_map (session_visits frequency) (lists_of (codes "ProtocolSession") (attributes graph))

abbrev pub read_interface_list : ℕ → List Attribute → Read (IdRange × InterfaceKeys)
read_interface_list frequency xs = then_read (ids_at xs) (λ ids. then_read (interface_keys frequency xs) (λ keys. Ok (ids, keys)))

abbrev pub interface_copy : List ℕ → InterfaceKeys → ℕ → List Visit
interface_copy host keys id = an_interface host id keys ∷ []

abbrev pub interface_visits : ℕ → List ℕ → Attributes → List Visit
interface_visits frequency host x = on_read (read_interface_list frequency (attributes x)) (λ read. flat_map (interface_copy host read.1) (ids_in read.0))

-- one part of a host, where a list `graph` was met before or not
abbrev pub host_part : ℕ → List ℕ → Bool → List ℕ → Attributes → List Visit
host_part frequency host met key x =
    if is_text (codes "interface") key then interface_visits frequency host x
    else if is_text (codes "graph") key && not met then graph_visits frequency x
    else []

-- the parts of a host: its interfaces, and the sessions of its first list `graph`
abbrev pub host_parts : ℕ → List ℕ → Bool → Attributes → List Visit
host_parts frequency host met none = []
host_parts frequency host met (plain key place text rest) = host_parts frequency host met rest
host_parts frequency host met (list key place inner rest) = host_part frequency host met key inner ++ host_parts frequency host (met || is_text (codes "graph") key) rest

abbrev pub read_host_list : List Attribute → Read (IdRange × Option GatewayKeys)
read_host_list xs = then_read (ids_at xs) (λ ids. then_read (gateway_of xs) (λ gateway. Ok (ids, gateway)))

abbrev pub host_copy : ℕ → Bool → List ℕ → Attributes → Option GatewayKeys → ℕ → List Visit
host_copy frequency router net x gateway id = a_host net id router gateway ∷ host_parts frequency (net ++ id ∷ []) false x

abbrev pub host_visits : ℕ → Bool → List ℕ → Attributes → List Visit
host_visits frequency router net x = on_read (read_host_list (attributes x)) (λ read. flat_map (host_copy frequency router net x read.1) (ids_in read.0))

abbrev pub server_visits : List ℕ → Attributes → List Visit
server_visits net x = on_read (server_keys (attributes x)) (λ keys. a_server net keys ∷ [])

-- a pattern, and then its servers
abbrev pub pattern_visits : List ℕ → Attributes → List Visit
pattern_visits net x = on_read (client_of (attributes x)) (λ client. a_pattern net client ∷ flat_map (server_visits net) (lists_of (codes "servers") (attributes x)))

abbrev pub traffic_visits : List ℕ → Attributes → List Visit
traffic_visits net x = flat_map (pattern_visits net) (lists_of (codes "pattern") (attributes x))

-- the copy of a nested Net with this id, whose parts are these; the first id of the range has this order
abbrev pub net_copy : List ℕ → (List ℕ → List Visit) → ℕ → ℕ → ℕ → List Visit
net_copy parent parts order first id = nested_net parent id (order + (id - first)) ∷ parts (parent ++ id ∷ [])

abbrev pub net_visits : List ℕ → ℕ → Attributes → (List ℕ → List Visit) → List Visit
net_visits parent order x parts = on_read (ids_at (attributes x)) (λ ids. flat_map (net_copy parent parts order ids.from) (ids_in ids))

-- how many copies ids make
abbrev pub copies : Read IdRange → ℕ
copies (Err fault) = 0
copies (Ok ids) = ids.to + 1 - ids.from

-- how many links and Nets of a Net a list with this key is
abbrev pub children : List ℕ → Attributes → ℕ
children key x =
    if is_text (codes "Net") key then copies (ids_at (attributes x))
    else if is_text (codes "link") key then 1
    else 0

-- a part of a Net that is neither a Net nor a link
abbrev pub other_visits : ℕ → List ℕ → List ℕ → Attributes → List Visit
other_visits frequency net key x =
    if is_text (codes "host") key then host_visits frequency false net x
    else if is_text (codes "router") key then host_visits frequency true net x
    else if is_text (codes "traffic") key then traffic_visits net x
    else []

-- one part of a Net, which has these parts where it is a Net itself
abbrev pub part_visits : ℕ → List ℕ → ℕ → List ℕ → Attributes → (List ℕ → List Visit) → List Visit
part_visits frequency net order key x parts =
    if is_text (codes "Net") key then net_visits net order x parts
    else if is_text (codes "link") key then a_link net order x ∷ []
    else other_visits frequency net key x

-- the parts of a Net in written order, where so many links and Nets of it came before
abbrev pub net_parts : ℕ → List ℕ → ℕ → Attributes → List Visit
net_parts frequency net order none = []
net_parts frequency net order (plain key place text rest) = net_parts frequency net order rest
net_parts frequency net order (list key place inner rest) =
    part_visits frequency net order key inner (λ ids. net_parts frequency ids 0 inner) ++ net_parts frequency net (order + children key inner) rest

abbrev pub walk : ℕ → Attributes → List Visit
walk frequency tree = top_net ∷ net_parts frequency [] 0 tree
