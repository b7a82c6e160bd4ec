-- What the arms of a graph give to the search: labels of single arms, starts and edges. Links are
-- nodes by their numbers, and hosts come behind them.
use Rattle.std.specs.Prelude.{ℕ, ◌≡◌, ◌≢◌, ◌+◌, ◌<◌, ◌⊎◌, true, List, length, slice_index, slice_get, Contains, Option, Some, None, IfSome, IsSomeAnd, Vec}
use Rattle.std.specs.Global.{Global}
use Rattle.std.specs.List.Sorted.{IsStrictlyIncreasing}
use Rattle.ip_blocks.specs.declared.block.Block.{Block}
use Rattle.spf_routes.specs.declared.graph.Arm.{Arm}
use Rattle.spf_routes.specs.declared.graph.Route.{Route}
use Rattle.spf_routes.specs.declared.search.Label.{Label}
use Rattle.spf_routes.specs.declared.search.Edge.{Edge}
use Rattle.spf_routes.specs.declared.search.Start.{Start}
use Rattle.spf_routes.specs.Best.{route_at}
use Rattle.spf_routes.specs.Walks.{IsAtMost, label_of}
use Rattle.spf_routes.specs.Paths.{best_at, IsStart, IsEdge}

-- the one of the two labels that is there, and the lesser where both are
pub record IsLesser (a b result : Option Label) : Type 0 where
  pub one : (result ≡ a) ⊎ (result ≡ b)
  pub first : IfSome a (λ x. IsSomeAnd result (λ r. IsAtMost r x))
  pub second : IfSome b (λ x. IsSomeAnd result (λ r. IsAtMost r x))

-- the label of the walk by this arm alone
abbrev pub alone : Arm → Label
alone arm = record { cost = arm.cost; interface = arm.interface; next = 0 }

-- for each link the least label of a walk by one arm of the host
pub record AreDirect (arms : List Arm) (from links : ℕ) (direct : List (Option Label)) : Type 0 where
  pub as_many : length direct ≡ links
  pub walked : (link : ℕ) (l : Label) → best_at direct link ≡ Some l → (a : Arm) × Contains arms a × (a.host ≡ from) × (a.link ≡ link) × (l ≡ alone a)
  pub least : (a : Arm) → Contains arms a → a.host ≡ from → (b : Label) × (best_at direct a.link ≡ Some b) × IsAtMost b (alone a)

-- the second arm is the one by which another host, which relays too, is attached to the first one's link
pub record Enters (arms : List Arm) (from : ℕ) (a e : Arm) : Type 0 where
  pub first : Contains arms a
  pub second : Contains arms e
  pub begins : a.host ≡ from
  pub shared : e.link ≡ a.link
  pub another : e.host ≢ from
  pub relays : a.relays ≡ true
  pub relays_too : e.relays ≡ true

-- the label with which the second host is entered
abbrev pub entered : Arm → Arm → Label
entered a e = record { cost = a.cost; interface = a.interface; next = e.address }

pub record AreEntries (arms : List Arm) (from links : ℕ) (starts : List Start) : Type 0 where
  pub walked : (l : Label) (n : ℕ) → IsStart starts l n → (a e : Arm) × Enters arms from a e × (n ≡ links + e.host) × (l ≡ entered a e)
  pub least : (a e : Arm) → Enters arms from a e → (l : Label) × IsStart starts l (links + e.host) × IsAtMost l (entered a e)

-- an edge from each relaying host to each of its links, and one back
abbrev pub leaves : Arm → Edge
leaves a = record { to = a.link; weight = a.cost }

abbrev pub arrives : ℕ → Arm → Edge
arrives links a = record { to = links + a.host; weight = 0 }

pub record AreArms (arms : List Arm) (links nodes : ℕ) (edges : List (Vec Edge Global)) : Type 0 where
  pub as_many : length edges ≡ nodes
  pub from_arms : (n : ℕ) (edge : Edge) → IsEdge edges n edge → (a : Arm) × Contains arms a × (a.relays ≡ true) × (((n ≡ links + a.host) × (edge ≡ leaves a)) ⊎ ((n ≡ a.link) × (edge ≡ arrives links a)))
  pub all_arms : (a : Arm) → Contains arms a → a.relays ≡ true → IsEdge edges (links + a.host) (leaves a) × IsEdge edges a.link (arrives links a)

-- the routes by the lesser of two labels of each link, in the order of the links
pub record AreRoutes (blocks : List Block) (direct best : List (Option Label)) (count : ℕ) (routes : List Route) (links : List ℕ) : Type 0 where
  pub in_order : IsStrictlyIncreasing links
  pub as_many : length links ≡ length routes
  pub there : (k : ℕ) → k < length links → slice_index links k < count
  pub lesser : (k : ℕ) → k < length routes → IsLesser (best_at direct (slice_index links k)) (best_at best (slice_index links k)) (Some (label_of (route_at routes k)))
  pub block : (k : ℕ) → k < length routes → slice_get blocks (slice_index links k) ≡ Some (route_at routes k).block
  pub all : (link : ℕ) → link < count → (IsLesser (best_at direct link) (best_at best link) None) ⊎ Contains links link

-- some arm of the host relays, or none does
abbrev pub SomeRelays : List Arm → ℕ → Type 0
SomeRelays arms from = (a : Arm) × Contains arms a × (a.host ≡ from) × (a.relays ≡ true)

abbrev pub NoneRelays : List Arm → ℕ → Type 0
NoneRelays arms from = (a : Arm) → Contains arms a → a.host ≡ from → a.relays ≡ true → ⊥
