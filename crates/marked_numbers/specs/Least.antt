-- The least marked number.
use Rattle.std.specs.Prelude.{ℕ, ◌≡◌, ◌<◌, Bool, true, List, Some, slice_get}

-- a number is marked
abbrev pub IsMarked : List Bool → ℕ → Type 0
IsMarked marks n = slice_get marks n ≡ Some true

-- and none below it is
pub record IsLeast (marks : List Bool) (n : ℕ) : Type 0 where
  pub marked : IsMarked marks n
  pub least : (k : ℕ) → k < n → IsMarked marks k → ⊥
