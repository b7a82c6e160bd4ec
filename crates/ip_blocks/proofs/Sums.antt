-- Sums over the parts that pass a test.
use Rattle.std.proofs.Common.{◌≡◌, ℕ, zero, suc, ◌+◌, ◌<◌, ◌≤◌, Bool, true, false, cond, ◌&&◌, List, [], ◌∷◌, length, get_or, sum_by, filter, refl, ◌∙◌, arith}
use Rattle.std.proofs.lemmas.List.Sums.{sum_by-cons}
use Rattle.ip_blocks.specs.Blocks.{Part, size_of, lies_in, sum_in, goes_before, offset_in}

-- a sum over those that pass is a sum in which the others count 0
pub sum_by-filter : {X : Type 0} (f : X → ℕ) (p : X → Bool) (xs : List X) → sum_by f (filter p xs) ≡ sum_by (λ x. cond (p x) (f x) 0) xs
sum_by-filter f p [] = refl
sum_by-filter f p (x ∷ xs) =
    elim (p x) as (λ b. sum_by f (cond b (x ∷ filter p xs) (filter p xs)) ≡ sum_by (λ y. cond (p y) (f y) 0) xs + cond b (f x) 0) [
      | true ↦ sum_by-cons f x (filter p xs) ∙ omega (arith, sum_by-filter f p xs)
      | false ↦ omega (arith, sum_by-filter f p xs)
    ] ∙ omega (arith, sum_by-cons (λ y. cond (p y) (f y) 0) x xs)

-- one sum is above another by what one element adds
pub sum_by_gap : {X : Type 0} (f g : X → ℕ) → ((x : X) → g x ≤ f x) → (xs : List X) (i extra : ℕ) (d : X) → i < length xs → g (get_or xs i d) + extra ≤ f (get_or xs i d) → sum_by g xs + extra ≤ sum_by f xs
sum_by_gap f g h [] i extra d lt more = absurd (omega arith)
sum_by_gap f g h (x ∷ xs) zero extra d lt more = omega (arith, sum_by-cons f x xs, sum_by-cons g x xs, same_or_less f g h xs)
  where
    same_or_less : {X : Type 0} (f g : X → ℕ) → ((x : X) → g x ≤ f x) → (xs : List X) → sum_by g xs ≤ sum_by f xs
    same_or_less f g h [] = omega arith
    same_or_less f g h (x ∷ xs) = omega (arith, sum_by-cons f x xs, sum_by-cons g x xs, h x, same_or_less f g h xs)
sum_by_gap f g h (x ∷ xs) (suc i) extra d lt more =
    omega (arith, sum_by-cons f x xs, sum_by-cons g x xs, h x, sum_by_gap f g h xs i extra d (omega arith) more)

-- a part's size as part of Net n
abbrev pub weight : ℕ → Part → ℕ
weight n part = cond (lies_in n part) (size_of part) 0

-- a sibling's size where it goes before
abbrev pub weight_before : ℕ → Part → Part → ℕ
weight_before n part sibling = cond (lies_in n sibling && goes_before sibling part) (size_of sibling) 0

pub sum_in_is : (n : ℕ) (parts : List Part) → sum_in n parts ≡ sum_by (weight n) parts
unfolding sum_in
sum_in_is n parts = sum_by-filter size_of (lies_in n) parts

pub offset_in_is : (n : ℕ) (parts : List Part) (part : Part) → offset_in n parts part ≡ sum_by (weight_before n part) parts
unfolding offset_in
offset_in_is n parts part = sum_by-filter size_of (λ sibling. lies_in n sibling && goes_before sibling part) parts

pub sum_in-cons : (n : ℕ) (part : Part) (parts : List Part) → sum_in n (part ∷ parts) ≡ weight n part + sum_in n parts
sum_in-cons n part parts = omega (arith, sum_in_is n (part ∷ parts), sum_in_is n parts, sum_by-cons (weight n) part parts)
