-- Lists that are filled side by side, a list for each host or for each interface.
use Rattle.std.specs.Prelude.{ℕ, ◌≡◌, ◌<◌, List, [], ◌∷◌, ◌++◌, length, Option, Some, None, slice_index_or, slice_set}

-- these lists, where something is appended to the one at a place
abbrev pub appended_at : {T : Type 0} → List (List T) → ℕ → Option T → List (List T)
appended_at lists place None = lists
appended_at lists place (Some item) = slice_set lists place (slice_index_or lists place [] ++ item ∷ [])

-- for each number below n the list that it has of these items
pub record AreGathered {X T : Type 0} (list_of : ℕ → List X → List T) (n : ℕ) (items : List X) (lists : List (List T)) : Type 0 where
  pub as_many : length lists ≡ n
  pub each : (h : ℕ) → h < n → slice_index_or lists h [] ≡ list_of h items
