-- Paths from the starts of a search over edges, and the labels that they give to nodes.
use Rattle.std.specs.Prelude.{ℕ, ◌≡◌, ◌+◌, ◌<◌, ◌≤◌, ◌⊎◌, List, length, slice_index_or, slice_get, All, Contains, Option, Some, None}
use Rattle.std.specs.Global.{Global}
use Rattle.std.specs.Prelude.{Vec}
use Rattle.std.specs.Ordering.{ordering_then, nat_cmp}
use Rattle.std.specs.declared.cmp.Ordering.{Ordering}
use Rattle.std.specs.declared.cmp.Reverse.{Reverse}
use Rattle.spf_routes.specs.declared.search.Label.{Label}
use Rattle.spf_routes.specs.declared.search.Edge.{Edge}
use Rattle.spf_routes.specs.declared.search.Start.{Start}
use Rattle.spf_routes.specs.Walks.{IsAtMost}

-- the entries of a queue: labels with their nodes
abbrev pub Queue : Type 0
Queue = List (Reverse (Label × ℕ))

abbrev pub label_cmp : Label → Label → Ordering
label_cmp a b = ordering_then (nat_cmp a.cost b.cost) (ordering_then (nat_cmp a.interface b.interface) (nat_cmp a.next b.next))

-- a lesser label stands higher
abbrev pub order : Reverse (Label × ℕ) → Reverse (Label × ℕ) → Ordering
order x y = ordering_then (label_cmp y.0.0 x.0.0) (nat_cmp y.0.1 x.0.1)

abbrev pub IsQueued : Queue → Label → ℕ → Type 0
IsQueued queue label node = Contains queue (record { 0 = (label, node) })

abbrev pub best_at : List (Option Label) → ℕ → Option Label
best_at best node = slice_index_or best node None

-- this label of this node is the least of the queue at a node that is not settled; the entries that
-- are gone have it or are of settled nodes
pub record IsNextOf (queue : Queue) (best : List (Option Label)) (label : Label) (node : ℕ) (left : Queue) : Type 0 where
  pub there : node < length best
  pub queued : IsQueued queue label node
  pub unsettled : best_at best node ≡ None
  pub none_new : (l : Label) (n : ℕ) → IsQueued left l n → IsQueued queue l n
  pub none_lost : (l : Label) (n : ℕ) → IsQueued queue l n → best_at best n ≡ None → IsQueued left l n ⊎ ((l ≡ label) × (n ≡ node))
  pub least : (l : Label) (n : ℕ) → IsQueued left l n → IsAtMost label l

abbrev pub AllSettled : Queue → List (Option Label) → Type 0
AllSettled queue best = (l : Label) (n : ℕ) → IsQueued queue l n → best_at best n ≡ None → ⊥

-- the label behind an edge
abbrev pub behind : Label → ℕ → Label
behind label weight = record { cost = label.cost + weight; interface = label.interface; next = label.next }

-- the queue with an entry for each edge
pub record AreAdded (queue : Queue) (label : Label) (edges : List Edge) (after : Queue) : Type 0 where
  pub kept : (l : Label) (n : ℕ) → IsQueued queue l n → IsQueued after l n
  pub new : (edge : Edge) → Contains edges edge → IsQueued after (behind label edge.weight) edge.to
  pub others : (l : Label) (n : ℕ) → IsQueued after l n → IsQueued queue l n ⊎ ((edge : Edge) × Contains edges edge × (l ≡ behind label edge.weight) × (n ≡ edge.to))

abbrev pub IsStart : List Start → Label → ℕ → Type 0
IsStart starts label node = Contains starts (record { label = label; node = node })

-- the queue has the starts, and nothing else
pub record HoldsStarts (starts : List Start) (queue : Queue) : Type 0 where
  pub all : (l : Label) (n : ℕ) → IsStart starts l n → IsQueued queue l n
  pub none_else : (l : Label) (n : ℕ) → IsQueued queue l n → IsStart starts l n

abbrev pub IsEdge : List (Vec Edge Global) → ℕ → Edge → Type 0
IsEdge edges node edge = (row : Vec Edge Global) × (slice_get edges node ≡ Some row) × Contains row.items edge

-- a path from a start to a node gives it this label
pub data IsPath (starts : List Start) (edges : List (Vec Edge Global)) : ℕ → Label → Type 0 where
  begins : {node : ℕ} {label : Label} → IsStart starts label node → IsPath starts edges node label
  goes_on : {node : ℕ} {label : Label} (edge : Edge) → IsPath starts edges node label → IsEdge edges node edge → IsPath starts edges edge.to (behind label edge.weight)

-- starts are at nodes that are there, and cost at most 65,535
abbrev pub AreStarts : List Start → ℕ → Type 0
AreStarts starts nodes = All (λ (start : Start). (start.node < nodes) × (start.label.cost ≤ 65535)) starts

-- edges lead to nodes that are there, and cost at most 65,535
abbrev pub AreEdges : List (Vec Edge Global) → Type 0
AreEdges edges = All (λ (row : Vec Edge Global). All (λ (edge : Edge). (edge.to < length edges) × (edge.weight ≤ 65535)) row.items) edges

-- for each node the least label of the paths to it, and none where there is no path
pub record AreLeast (starts : List Start) (edges : List (Vec Edge Global)) (best : List (Option Label)) : Type 0 where
  pub as_many : length best ≡ length edges
  pub reached : (n : ℕ) (l : Label) → best_at best n ≡ Some l → IsPath starts edges n l
  pub least : (n : ℕ) (l : Label) → IsPath starts edges n l → (b : Label) × (best_at best n ≡ Some b) × IsAtMost b l
