-- The parts of a layout as a tree.
use Rattle.std.specs.Prelude.{◌≡◌, ℕ, ◌<◌, ◌≤◌, List, length, slice_index_or, None, MatchOption}
use Rattle.ip_blocks.specs.Blocks.{Part, sum_in, exponent_of}

abbrev pub no_part : Part
no_part = record { net = None; exponent = 0; order = 0 }

abbrev pub at : List Part → ℕ → Part
at parts x = slice_index_or parts x no_part

-- what the parts of a layout keep; the first `count` are Nets
pub record IsTree (parts : List Part) (count : ℕ) : Type 0 where
  pub parents : (x : ℕ) → x < length parts → MatchOption (at parts x).net (x ≡ 0) (λ n. (n < x) × (n < count))
  pub filled : (n : ℕ) → n < count → (at parts n).exponent ≡ exponent_of (sum_in n parts)
  pub differ : (x y : ℕ) → x < length parts → y < length parts → (at parts x).net ≡ (at parts y).net → (at parts x).order ≡ (at parts y).order → x ≡ y
  pub nets_first : count ≤ length parts
