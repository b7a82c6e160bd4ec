-- The rows of what the walk meets, and the faults that it may have.
use Rattle.std.specs.Prelude.{ℕ, Bool, true, false, ◌+◌, ◌-◌, nat_le, List, [], ◌∷◌, ◌++◌, length, position, Option, Some, None, Ok, Err}
use Rattle.std.specs.List.{list_any}
use Rattle.std.specs.Option.{unwrap_or}
use Rattle.nhi_address.specs.NhiFields.{NhiFields}
use Rattle.net_graph.specs.declared.fault.ShapeFault.{ShapeFault}
use Rattle.net_graph.specs.declared.fault.ShapeFault.TheVariants.{DoubleId, TooMany}
use Rattle.net_graph.specs.declared.rows.NetRow.{NetRow}
use Rattle.net_graph.specs.declared.rows.InterfaceRow.{InterfaceRow}
use Rattle.net_graph.specs.declared.list_keys.GatewayKeys.{GatewayKeys}
use Rattle.net_graph.specs.declared.list_keys.InterfaceKeys.{InterfaceKeys}
use Rattle.net_graph.specs.declared.list_keys.LinkKeys.{LinkKeys}
use Rattle.net_graph.specs.declared.list_keys.SessionKeys.{SessionKeys}
use Rattle.net_graph.specs.declared.seen.HostSeen.{HostSeen}
use Rattle.net_graph.specs.declared.seen.LinkSeen.{LinkSeen}
use Rattle.net_graph.specs.declared.seen.SessionSeen.{SessionSeen}
use Rattle.net_graph.specs.Names.{same}
use Rattle.net_graph.specs.Reads.{Read}

-- the number of the Net, or of the host, with these ids: its place among these names
abbrev pub number_in : List (List ℕ) → List ℕ → ℕ
number_in names ids = unwrap_or (position (same ids) names) 0

-- the number of the host that was met last
abbrev pub last_number : List (List ℕ) → ℕ
last_number names = length names - 1

abbrev pub top_row : NetRow
top_row = record { parent = None; order = 0; ids = [] }

-- a nested Net, where these Nets came before
abbrev pub nested_row : List (List ℕ) → List ℕ → ℕ → ℕ → NetRow
nested_row nets parent id order = record { parent = Some (number_in nets parent); order = order; ids = parent ++ id ∷ [] }

abbrev pub host_in : List (List ℕ) → List ℕ → ℕ → Bool → Option GatewayKeys → HostSeen
host_in nets net id router gateway = record { net = number_in nets net; path = net; id = id; router = router; gateway = gateway }

-- an interface of the host that was met last, where these hosts came before
abbrev pub interface_in : List (List ℕ) → ℕ → InterfaceKeys → InterfaceRow
interface_in hosts id k = record { host = last_number hosts; id = id; bitrate = k.bitrate; latency = k.latency; buffer = k.buffer; cost = k.cost; link = None }

abbrev pub session_in : List (List ℕ) → SessionKeys → SessionSeen
session_in hosts k = record { host = last_number hosts; keys = k }

-- a link whose keys could be read
abbrev pub link_in : List (List ℕ) → List ℕ → ℕ → Read LinkKeys → Option LinkSeen
link_in nets net order (Err fault) = None
link_in nets net order (Ok k) = Some (record { net = number_in nets net; path = net; order = order; keys = k })

-- how many times in which a link is down there are with those of one more link
abbrev pub downs_more : ℕ → Read LinkKeys → ℕ
downs_more downs (Ok k) = downs + length k.downs
downs_more downs (Err fault) = downs

abbrev pub first_some : {A : Type 0} → Option A → Option A → Option A
first_some None b = b
first_some (Some a) b = Some a

abbrev pub fault_if : Bool → ShapeFault → Option ShapeFault
fault_if true fault = Some fault
fault_if false fault = None

-- too many of a kind
abbrev pub many : ℕ → ℕ → List ℕ → Option ShapeFault
many count most kind = fault_if (nat_le most count) (TooMany kind)

-- these ids are among the names, and then there are too many of the kind
abbrev pub double_or_many : List (List ℕ) → List ℕ → NhiFields → ℕ → List ℕ → Option ShapeFault
double_or_many names ids address most kind = first_some (fault_if (list_any (same ids) names) (DoubleId address)) (many (length names) most kind)

abbrev pub link_fault : Read LinkKeys → Option ShapeFault → Option ShapeFault
link_fault (Err fault) rest = Some fault
link_fault (Ok k) rest = rest
