-- What the Nets need, while it is being added up.
use Rattle.std.specs.Prelude.{◌≡◌, ℕ, ◌^◌, ◌<◌, ◌≤◌, List, length, slice_index}
use Rattle.ip_blocks.specs.Blocks.{Part, sum_in}
use Rattle.ip_blocks.specs.Tree.{at}

-- each Net's sum so far, over these parts, of which no Net has more than 2^24 addresses
abbrev pub AreSums : List ℕ → List Part → Type 0
AreSums sums parts = (n : ℕ) → n < length sums → (slice_index sums n ≡ sum_in n parts) × (sum_in n parts ≤ 2 ^ 24)

-- some Net has more than 2^24 addresses
abbrev pub AreTooMany : ℕ → List Part → Type 0
AreTooMany nets parts = (n : ℕ) × (n < nets) × (2 ^ 24 < sum_in n parts)

-- the exponents of the Nets, by number
abbrev pub AreExponents : List ℕ → ℕ → List Part → Type 0
AreExponents exponents nets parts = (length exponents ≡ nets) × ((n : ℕ) → n < nets → slice_index exponents n ≡ (at parts n).exponent)

-- no Net has more than 2^24 addresses
abbrev pub AllFit : ℕ → List Part → Type 0
AllFit nets parts = (n : ℕ) → n < nets → sum_in n parts ≤ 2 ^ 24
