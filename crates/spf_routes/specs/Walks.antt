-- Walks from a host to a link, and the table of least routes.
use Rattle.std.specs.Prelude.{ℕ, ◌≡◌, ◌≢◌, ◌+◌, ◌^◌, ◌<◌, ◌≤◌, ◌⊎◌, true, List, [], ◌∷◌, length, slice_index, slice_get, sum_by, All, Contains, Some}
use Rattle.std.specs.List.Sorted.{IsStrictlyIncreasing}
use Rattle.spf_routes.specs.declared.graph.Arm.{Arm}
use Rattle.spf_routes.specs.declared.graph.Graph.{Graph}
use Rattle.spf_routes.specs.declared.graph.Route.{Route}
use Rattle.spf_routes.specs.declared.search.Label.{Label}
use Rattle.spf_routes.specs.Best.{route_at}

-- a host is attached to a link by an arm of this address
abbrev pub IsAttached : List Arm → ℕ → ℕ → ℕ → Type 0
IsAttached arms host link address = (arm : Arm) × Contains arms arm × (arm.host ≡ host) × (arm.link ≡ link) × (arm.address ≡ address)

-- from the link of the one arm on by the other: it is an arm of another host on that link, and both hosts relay
pub record GoesOn (arms : List Arm) (a b : Arm) : Type 0 where
  pub known : Contains arms b
  pub another : b.host ≢ a.host
  pub attached : (address : ℕ) × IsAttached arms b.host a.link address
  pub first_relays : a.relays ≡ true
  pub other_relays : b.relays ≡ true

-- a walk by this arm and then by these
abbrev pub IsWalk : List Arm → Arm → List Arm → Type 0
IsWalk arms a [] = Unit {0}
IsWalk arms a (b ∷ rest) = GoesOn arms a b × IsWalk arms b rest

abbrev pub last_arm : Arm → List Arm → Arm
last_arm a [] = a
last_arm a (b ∷ rest) = last_arm b rest

abbrev pub cost_of : Arm → List Arm → ℕ
cost_of a rest = a.cost + sum_by (λ (b : Arm). b.cost) rest

-- an address by which the second host is attached to the first link, and 0 for a walk of one arm
abbrev pub IsNext : List Arm → Arm → List Arm → ℕ → Type 0
IsNext arms a [] next = next ≡ 0
IsNext arms a (b ∷ rest) next = IsAttached arms b.host a.link next

-- some walk from the host to the link has this cost, first interface and next address
pub record Reaches (arms : List Arm) (from link : ℕ) (label : Label) : Type 0 where
  pub first : Arm
  pub rest : List Arm
  pub known : Contains arms first
  pub begins : first.host ≡ from
  pub walk : IsWalk arms first rest
  pub ends : (last_arm first rest).link ≡ link
  pub cost : label.cost ≡ cost_of first rest
  pub interface : label.interface ≡ first.interface
  pub next : IsNext arms first rest label.next

-- by cost, then by first interface, then by next address
abbrev pub IsAtMost : Label → Label → Type 0
IsAtMost a b = (a.cost < b.cost) ⊎ ((a.cost ≡ b.cost) × ((a.interface < b.interface) ⊎ ((a.interface ≡ b.interface) × (a.next ≤ b.next))))

-- the least of the walks from the host to the link
pub record IsLeast (arms : List Arm) (from link : ℕ) (label : Label) : Type 0 where
  pub walked : Reaches arms from link label
  pub least : (other : Label) → Reaches arms from link other → IsAtMost label other

abbrev pub label_of : Route → Label
label_of route = record { cost = route.cost; interface = route.interface; next = route.next }

-- a route for each link that a walk reaches, in the order of the links, and for no others
pub record IsTable (graph : Graph) (from : ℕ) (routes : List Route) : Type 0 where
  pub links : List ℕ
  pub in_order : IsStrictlyIncreasing links
  pub as_many : length links ≡ length routes
  pub least : (k : ℕ) → k < length routes → IsLeast graph.arms from (slice_index links k) (label_of (route_at routes k))
  pub block : (k : ℕ) → k < length routes → slice_get graph.blocks (slice_index links k) ≡ Some (route_at routes k).block
  pub all_links : (link : ℕ) (label : Label) → Reaches graph.arms from link label → Contains links link

-- hosts and links are in range, costs are at most 65,535, and all arms of one host relay or none
pub record IsGraph (graph : Graph) : Type 0 where
  pub hosts : All (λ (arm : Arm). arm.host < graph.hosts) graph.arms
  pub links : All (λ (arm : Arm). arm.link < length graph.blocks) graph.arms
  pub costs : All (λ (arm : Arm). arm.cost ≤ 65535) graph.arms
  pub few_links : length graph.blocks ≤ 2 ^ 32
  pub relays : (a b : Arm) → Contains graph.arms a → Contains graph.arms b → a.host ≡ b.host → a.relays ≡ b.relays
