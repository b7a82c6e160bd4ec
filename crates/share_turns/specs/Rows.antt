-- The channels of each timeline: their places in the list of all channels between timelines.
use Rattle.std.specs.Prelude.{ℕ, ◌≡◌, ◌≢◌, ◌⊎◌, ◌++◌, ◌∷◌, [], List, length, Contains, Some, slice_get, Vec}
use Rattle.std.specs.Global.{Global}
use Rattle.plan_shares.specs.declared.crosses.CrossEnd.{CrossEnd}

-- the row of timeline i is this list
abbrev pub IsRow : List (Vec ℕ Global) → ℕ → List ℕ → Type 0
IsRow rows i places = (row : Vec ℕ Global) × (slice_get rows i ≡ Some row) × (row.items ≡ places)

-- timeline i sends on the channel of this end, or receives from it
abbrev pub IsEndAt : ℕ → CrossEnd → Type 0
IsEndAt i end = (end.sender ≡ i) ⊎ (end.receiver ≡ i)

-- the places of the channels of timeline i, each at least once
pub record ArePlacesOf (ends : List CrossEnd) (i : ℕ) (places : List ℕ) : Type 0 where
  pub known : (k : ℕ) → Contains places k → (end : CrossEnd) × (slice_get ends k ≡ Some end) × IsEndAt i end
  pub all : (k : ℕ) (end : CrossEnd) → slice_get ends k ≡ Some end → IsEndAt i end → Contains places k

-- there is a row for each timeline, and it has the places of its channels
pub record AreNear (ends : List CrossEnd) (timelines : ℕ) (rows : List (Vec ℕ Global)) : Type 0 where
  pub many : length rows ≡ timelines
  pub of : (i : ℕ) (places : List ℕ) → IsRow rows i places → ArePlacesOf ends i places

-- the row of timeline i has one place more, at its end, and the others are the same
pub record HasAdded (old new : List (Vec ℕ Global)) (i place : ℕ) : Type 0 where
  pub many : length new ≡ length old
  pub own : (places : List ℕ) → IsRow old i places → IsRow new i (places ++ place ∷ [])
  pub others : (j : ℕ) (places : List ℕ) → j ≢ i → IsRow old j places → IsRow new j places
