-- What the walk over the tree of a Net meets: each kind is a filter of the visits, and its numbers are the places there.
use Rattle.std.specs.Prelude.{ℕ, Bool, true, false, List, [], ◌∷◌, ◌++◌, length, filter, Option, Some, None, Ok, Err, codes}
use Rattle.std.specs.List.{filter_map}
use Rattle.dml_tree.specs.TreeView.{attributes}
use Rattle.net_graph.specs.declared.fault.ShapeFault.{ShapeFault}
use Rattle.net_graph.specs.declared.rows.NetRow.{NetRow}
use Rattle.net_graph.specs.declared.rows.InterfaceRow.{InterfaceRow}
use Rattle.net_graph.specs.declared.seen.HostSeen.{HostSeen}
use Rattle.net_graph.specs.declared.seen.LinkSeen.{LinkSeen}
use Rattle.net_graph.specs.declared.seen.SessionSeen.{SessionSeen}
use Rattle.net_graph.specs.declared.seen.TrafficSeen.{TrafficSeen}
use Rattle.net_graph.specs.declared.seen.TrafficSeen.TheVariants as traffic
use Rattle.net_graph.specs.declared.seen.Seen.{Seen}
use Rattle.net_graph.specs.Reads.{Read}
use Rattle.net_graph.specs.ListKeys.{link_keys}
use Rattle.net_graph.specs.SeenRows.{top_row, nested_row, host_in, interface_in, session_in, link_in, downs_more, first_some, many, double_or_many, link_fault}
use Rattle.net_graph.specs.Visits.{Visit, unread, top_net, nested_net, a_host, an_interface, a_session, a_link, a_pattern, a_server}

-- a visit, and those before it
pub record Moment : Type 0 where
  pub before : List Visit
  pub visit : Visit

abbrev pub moments_after : List Visit → List Visit → List Moment
moments_after before [] = []
moments_after before (v ∷ vs) = record { before = before; visit = v } ∷ moments_after (before ++ v ∷ []) vs

-- what is kept of each visit with those before it
abbrev pub kept : {A : Type 0} → (List Visit → Visit → Option A) → List Visit → List A
kept f vs = filter_map (λ m. f m.before m.visit) (moments_after [] vs)

abbrev pub count_of : (Visit → Bool) → List Visit → ℕ
count_of is vs = length (filter is vs)

-- the ids by which the Nets, the hosts and the interfaces are named, each kind in the order of its numbers

abbrev pub net_path : Visit → Option (List ℕ)
net_path top_net = Some []
net_path (nested_net parent id order) = Some (parent ++ id ∷ [])
net_path _ = None

abbrev pub net_paths : List Visit → List (List ℕ)
net_paths vs = filter_map net_path vs

abbrev pub host_path : Visit → Option (List ℕ)
host_path (a_host n id router gateway) = Some (n ++ id ∷ [])
host_path _ = None

abbrev pub host_paths : List Visit → List (List ℕ)
host_paths vs = filter_map host_path vs

-- an interface is named by its host's ids and its own
abbrev pub interface_path : Visit → Option (List ℕ)
interface_path (an_interface h id k) = Some (h ++ id ∷ [])
interface_path _ = None

abbrev pub interface_paths : List Visit → List (List ℕ)
interface_paths vs = filter_map interface_path vs

-- the rows of each kind, and what is kept of those whose addresses are looked up later

abbrev pub net_row : List Visit → Visit → Option NetRow
net_row before top_net = Some top_row
net_row before (nested_net parent id order) = Some (nested_row (net_paths before) parent id order)
net_row before _ = None

abbrev pub host_seen : List Visit → Visit → Option HostSeen
host_seen before (a_host n id router gateway) = Some (host_in (net_paths before) n id router gateway)
host_seen before _ = None

abbrev pub interface_row : List Visit → Visit → Option InterfaceRow
interface_row before (an_interface h id k) = Some (interface_in (host_paths before) id k)
interface_row before _ = None

abbrev pub session_seen : List Visit → Visit → Option SessionSeen
session_seen before (a_session k) = Some (session_in (host_paths before) k)
session_seen before _ = None

-- how many times in which a link is down these visits have, where so many came before
abbrev pub downs_of : ℕ → ℕ → List Visit → ℕ
downs_of frequency downs [] = downs
downs_of frequency downs (a_link n order x ∷ vs) = downs_of frequency (downs_more downs (link_keys frequency downs (attributes x))) vs
downs_of frequency downs (_ ∷ vs) = downs_of frequency downs vs

abbrev pub link_seen : ℕ → List Visit → Visit → Option LinkSeen
link_seen frequency before (a_link n order x) = link_in (net_paths before) n order (link_keys frequency (downs_of frequency 0 before) (attributes x))
link_seen frequency before _ = None

abbrev pub traffic_seen : List Visit → Visit → Option TrafficSeen
traffic_seen before (a_pattern n client) = Some (traffic.Pattern (record { path = n; client = client }))
traffic_seen before (a_server n k) = Some (traffic.Server (record { path = n; keys = k }))
traffic_seen before _ = None

abbrev pub is_server : Visit → Bool
is_server (a_server n k) = true
is_server _ = false

-- what these visits met, each kind in the order of its numbers
abbrev pub seen_in : ℕ → List Visit → Seen
seen_in frequency vs = record {
  nets = kept net_row vs;
  net_names = net_paths vs;
  hosts = kept host_seen vs;
  host_names = host_paths vs;
  interfaces = kept interface_row vs;
  interface_names = interface_paths vs;
  links = kept (link_seen frequency) vs;
  downs = downs_of frequency 0 vs;
  sessions = kept session_seen vs;
  traffic = kept traffic_seen vs;
  servers = count_of is_server vs;
}

-- the faults of the walk

abbrev pub fault_at : ℕ → List Visit → Visit → Option ShapeFault
fault_at frequency before (unread fault) = Some fault
fault_at frequency before top_net = None
fault_at frequency before (nested_net parent id order) =
    double_or_many (net_paths before) (parent ++ id ∷ []) (record { ids = parent ++ id ∷ []; interface = None }) 65536 (codes "nets")
fault_at frequency before (a_host n id router gateway) =
    double_or_many (host_paths before) (n ++ id ∷ []) (record { ids = n ++ id ∷ []; interface = None }) 65536 (codes "hosts")
fault_at frequency before (an_interface h id k) =
    double_or_many (interface_paths before) (h ++ id ∷ []) (record { ids = h; interface = Some id }) 131072 (codes "interfaces")
fault_at frequency before (a_session k) = many (length (kept session_seen before)) 262144 (codes "sessions")
fault_at frequency before (a_link n order x) =
    link_fault (link_keys frequency (downs_of frequency 0 before) (attributes x)) (many (length (kept (link_seen frequency) before)) 65536 (codes "links"))
fault_at frequency before (a_pattern n client) = None
fault_at frequency before (a_server n k) = many (count_of is_server before) 65536 (codes "patterns")

abbrev pub first_fault : ℕ → List Moment → Option ShapeFault
first_fault frequency [] = None
first_fault frequency (m ∷ ms) = first_some (fault_at frequency m.before m.visit) (first_fault frequency ms)

-- the walk, and the first fault that is met there
abbrev pub seen_or : Option ShapeFault → Seen → Read Seen
seen_or (Some fault) seen = Err fault
seen_or None seen = Ok seen

abbrev pub seen_by : ℕ → List Visit → Read Seen
seen_by frequency vs = seen_or (first_fault frequency (moments_after [] vs)) (seen_in frequency vs)
