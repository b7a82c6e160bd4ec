-- The graph of a period: the arms on links that are up.
use Rattle.std.specs.Prelude.{ℕ, ◌-◌, nat_lt, List, [], ◌∷◌, length, Option, Some, None, if◌then◌else◌}
use Rattle.std.specs.List.{flat_map, prefix_len}
use Rattle.net_graph.specs.declared.rows.Network.{Network}
use Rattle.net_graph.specs.declared.rows.InterfaceRow.{InterfaceRow}
use Rattle.ip_blocks.specs.Apart.{address_of}
use Rattle.spf_routes.specs.declared.graph.Arm.{Arm}
use Rattle.spf_routes.specs.declared.graph.Graph.{Graph}
use Rattle.net_graph.specs.Networks.{numbers, host_at, interface_at, link_at}
use Rattle.net_layout.specs.Periods.{is_up}
use Rattle.net_layout.specs.Addresses.{network_blocks}

-- how many interfaces stand before those of a host
unfoldable pub first_interface : Network → ℕ → ℕ
first_interface network h = prefix_len (λ (i : InterfaceRow). nat_lt i.host h) network.interfaces

-- the number of an interface within its host's list of interfaces
abbrev pub place_of : Network → ℕ → ℕ
place_of network i = i - first_interface network (interface_at network i).host

-- the arm of an interface at a place of a link
abbrev pub arm_at : Network → ℕ → ℕ → ℕ → Arm
arm_at network i link place = record {
  host = (interface_at network i).host;
  interface = place_of network i;
  link = link;
  address = address_of (network_blocks network) link place;
  cost = (interface_at network i).cost;
  relays = (host_at network (interface_at network i).host).ospf;
}

-- the arm of an interface at a tick, where a link that is up attaches it
abbrev pub arm_on : Network → ℕ → ℕ → Option (ℕ × ℕ) → List Arm
arm_on network tick i None = []
arm_on network tick i (Some at) = if is_up (link_at network at.0) tick then arm_at network i at.0 at.1 ∷ [] else []

unfoldable pub arm_of : Network → ℕ → ℕ → List Arm
arm_of network tick i = arm_on network tick i (interface_at network i).link

-- the arms at a tick, in the order of the interfaces
unfoldable pub arms_of : Network → ℕ → List Arm
arms_of network tick = flat_map (arm_of network tick) (numbers (length network.interfaces))

abbrev pub graph_of : Network → ℕ → Graph
graph_of network tick = record { hosts = length network.hosts; blocks = (network_blocks network).links; arms = arms_of network tick }
