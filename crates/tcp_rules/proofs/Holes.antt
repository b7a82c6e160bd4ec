-- Ranges of positions, and the first that none holds.
use Rattle.std.proofs.Common.{◌≡◌, ◌⊎◌, ℕ, zero, suc, ◌+◌, ◌-◌, ◌<◌, ◌≤◌, Bool, true, false, ◌||◌, max, nat_lt, nat_le, List, [], ◌∷◌, refl, sym, ◌∙◌, ap, subst, inl, inr, arith}
use Rattle.std.specs.List.{list_any}
use Rattle.std.proofs.lemmas.Bool.Decides.{nat_tests, eqb_tells}
use Rattle.tcp_rules.specs.declared.records.Range.{Range}
use Rattle.tcp_rules.specs.Servers.{holds, covers, is_within, placed, added, furthest, first_unmarked_at, first_unmarked, hole, IsHole, beyond}
use Rattle.tcp_rules.proofs.Cases.{before_or_from, if_case, both_left, both_right}

mark_case : (P : ℕ → Type 0) (b : Bool) (later : ℕ → ℕ) (p : ℕ) → (b ≡ true → P (later (p + 1))) → (b ≡ false → P p) → P (first_unmarked_at b later p)
mark_case P true later p h k = h refl
mark_case P false later p h k = k refl

from_or_after : (P : ℕ → Type 0) (p q : ℕ) → p ≤ q → P p → (p + 1 ≤ q → P q) → P q
from_or_after P p q low here later = elim (eqb_tells p q) [
  | inl w ↦ subst P w.1 here
  | inr w ↦ let ne = w.1 in later (omega arith)
]

-- the first unmarked position lies at or after the one where the search begins
pub first_unmarked-low : (n : ℕ) (marked : ℕ → Bool) (p : ℕ) → p ≤ first_unmarked n marked p
first_unmarked-low zero marked p = omega arith
first_unmarked-low (suc n) marked p = mark_case (λ h. p ≤ h) (marked p) (first_unmarked n marked) p
    (λ e. let k = first_unmarked-low n marked (p + 1) in omega (arith, k)) (λ e. omega arith)

-- all positions before it have the mark
pub first_unmarked-passes : (n : ℕ) (marked : ℕ → Bool) (p q : ℕ) → p ≤ q → q < first_unmarked n marked p → marked q ≡ true
first_unmarked-passes zero marked p q low high = absurd (omega arith)
first_unmarked-passes (suc n) marked p q low high = mark_case (λ h. q < h → marked q ≡ true) (marked p) (first_unmarked n marked) p
    (λ e above. from_or_after (λ x. marked x ≡ true) p q low e (λ next. first_unmarked-passes n marked (p + 1) q next above))
    (λ e above. absurd (omega arith))
    high

pub hole_low : (rs : List Range) (p : ℕ) → p ≤ hole rs p
unfolding hole
hole_low rs p = first_unmarked-low (furthest rs - p) (covers rs) p

pub hole_passes : (rs : List Range) (p q : ℕ) → p ≤ q → q < hole rs p → covers rs q ≡ true
unfolding hole
hole_passes rs p q low high = first_unmarked-passes (furthest rs - p) (covers rs) p q low high

-- what a range and a list hold is what they hold together
pub covers_placed : (r : Range) (ks : List Range) (p : ℕ) → covers (placed r ks) p ≡ (holds r p || covers ks p)
covers_placed r [] p = refl
covers_placed r (k ∷ ks) p = if_case (λ xs. covers xs p ≡ (holds r p || covers (k ∷ ks) p)) (nat_lt r.from k.from)
    (λ e. refl)
    (λ e. ap (λ b. holds k p || b) (covers_placed r ks p) ∙ swapped (holds k p) (holds r p) (covers ks p))
  where
    swapped : (a b c : Bool) → (a || (b || c)) ≡ (b || (a || c))
    swapped true true c = refl
    swapped true false c = refl
    swapped false true c = refl
    swapped false false c = refl

-- a range within another holds nothing else
within_holds : (r outer : Range) (p : ℕ) → is_within r outer ≡ true → holds r p ≡ true → holds outer p ≡ true
within_holds r outer p within held =
    let from = both_left (nat_le outer.from r.from) (nat_le r.to outer.to) within in
    let to = both_right (nat_le outer.from r.from) (nat_le r.to outer.to) within in
    let low = both_left (nat_le r.from p) (nat_lt p r.to) held in
    let high = both_right (nat_le r.from p) (nat_lt p r.to) held in
    grind (arith, nat_tests)

absorbed : (a b c : Bool) → (a ≡ true → (b || c) ≡ true) → (b || c) ≡ (a || (b || c))
absorbed true b c h = h refl
absorbed false b c h = refl

pub either : (a b : Bool) → (a ≡ true) ⊎ (b ≡ true) → (a || b) ≡ true
either true b h = refl
either false true h = refl
either false false (inl e) = e
either false false (inr e) = e

pub either_is : (a b : Bool) → (a || b) ≡ true → (a ≡ true) ⊎ (b ≡ true)
either_is true b e = inl refl
either_is false b e = inr e

held_covers : (r : Range) (ks : List Range) (p : ℕ) → list_any (is_within r) ks ≡ true → holds r p ≡ true → covers ks p ≡ true
held_covers r [] p any held = any
held_covers r (k ∷ ks) p any held = elim (either_is (is_within r k) (list_any (is_within r) ks) any) [
  | inl within ↦ either (holds k p) (covers ks p) (inl (within_holds r k p within held))
  | inr later ↦ either (holds k p) (covers ks p) (inr (held_covers r ks p later held))
]

known : (a b : Bool) → (a ≡ true → b ≡ true) → b ≡ (a || b)
known true b h = h refl
known false b h = refl

pub covers_added : (r : Range) (ks : List Range) (p : ℕ) → covers (added r ks) p ≡ (holds r p || covers ks p)
unfolding added
covers_added r ks p = if_case (λ xs. covers xs p ≡ (holds r p || covers ks p)) (list_any (is_within r) ks)
    (λ any. known (holds r p) (covers ks p) (held_covers r ks p any)) (λ e. covers_placed r ks p)

-- what is held after some are forgotten was held before
pub covers_beyond : (q : ℕ) (rs : List Range) (p : ℕ) → covers (beyond q rs) p ≡ true → covers rs p ≡ true
covers_beyond q [] p held = held
covers_beyond q (r ∷ rs) p held = if_case (λ xs. covers xs p ≡ true → covers (r ∷ rs) p ≡ true) (nat_lt q r.to)
    (λ e h. elim (either_is (holds r p) (covers (beyond q rs) p) h) [
      | inl here ↦ either (holds r p) (covers rs p) (inl here)
      | inr later ↦ either (holds r p) (covers rs p) (inr (covers_beyond q rs p later))
    ])
    (λ e h. either (holds r p) (covers rs p) (inr (covers_beyond q rs p h)))
    held

pub split_cover : (r : Range) (ks : List Range) (p : ℕ) → covers (added r ks) p ≡ true → (holds r p ≡ true) ⊎ (covers ks p ≡ true)
split_cover r ks p held = either_is (holds r p) (covers ks p) (sym (covers_added r ks p) ∙ held)

-- Where the hole is.
first_unmarked-high : (n : ℕ) (marked : ℕ → Bool) (p : ℕ) → first_unmarked n marked p ≤ p + n
first_unmarked-high zero marked p = omega arith
first_unmarked-high (suc n) marked p = mark_case (λ h. h ≤ p + suc n) (marked p) (first_unmarked n marked) p
    (λ e. let k = first_unmarked-high n marked (p + 1) in omega (arith, k)) (λ e. omega arith)

first_unmarked-stops : (n : ℕ) (marked : ℕ → Bool) (p : ℕ) → marked (p + n) ≡ false → marked (first_unmarked n marked p) ≡ false
first_unmarked-stops zero marked p last = let same : p + 0 ≡ p = omega arith in subst (λ q. marked q ≡ false) same last
first_unmarked-stops (suc n) marked p last = mark_case (λ h. marked h ≡ false) (marked p) (first_unmarked n marked) p
    (λ e. let same : p + suc n ≡ (p + 1) + n = omega arith in first_unmarked-stops n marked (p + 1) (subst (λ q. marked q ≡ false) same last))
    (λ e. e)

pub neither : (a b : Bool) → a ≡ false → b ≡ false → (a || b) ≡ false
neither true b h k = h
neither false b h k = k

pub not_held : (r : Range) (p : ℕ) → r.to ≤ p → holds r p ≡ false
not_held r p after = grind (arith, nat_tests)

pub not_yet_held : (r : Range) (p : ℕ) → p < r.from → holds r p ≡ false
not_yet_held r p early = grind (arith, nat_tests)

-- no range holds a position beyond the greatest end
none_beyond : (rs : List Range) (p : ℕ) → furthest rs ≤ p → covers rs p ≡ false
none_beyond [] p far = refl
none_beyond (r ∷ rs) p far = neither (holds r p) (covers rs p) (not_held r p (omega arith)) (none_beyond rs p (omega arith))

pub hole_high : (rs : List Range) (p : ℕ) → hole rs p ≤ max p (furthest rs)
unfolding hole
hole_high rs p = let k = first_unmarked-high (furthest rs - p) (covers rs) p in omega (arith, k)

pub hole_is : (rs : List Range) (p : ℕ) → IsHole rs p (hole rs p)
unfolding hole
hole_is rs p = record {
  low = first_unmarked-low (furthest rs - p) (covers rs) p;
  passed = first_unmarked-passes (furthest rs - p) (covers rs) p;
  stops = first_unmarked-stops (furthest rs - p) (covers rs) p (none_beyond rs (p + (furthest rs - p)) (omega arith));
}

-- there is one
clash : (b : Bool) → b ≡ true → b ≡ false → ⊥
clash b h k = cc

pub one_hole : (rs : List Range) (p h k : ℕ) → IsHole rs p h → IsHole rs p k → h ≡ k
one_hole rs p h k at there = elim (before_or_from h k) [
  | inl w ↦ absurd (clash (covers rs h) (there.passed h at.low w) at.stops)
  | inr w ↦ elim (before_or_from k h) [
    | inl v ↦ absurd (clash (covers rs k) (at.passed k there.low v) there.stops)
    | inr v ↦ omega arith
  ]
]

-- Greatest ends.
pub furthest_placed : (r : Range) (ks : List Range) → furthest (placed r ks) ≡ max r.to (furthest ks)
furthest_placed r [] = refl
furthest_placed r (k ∷ ks) = if_case (λ xs. furthest xs ≡ max r.to (furthest (k ∷ ks))) (nat_lt r.from k.from)
    (λ e. refl) (λ e. let rest = furthest_placed r ks in omega arith)

pub furthest_added : (r : Range) (ks : List Range) → furthest (added r ks) ≤ max r.to (furthest ks)
unfolding added
furthest_added r ks = if_case (λ xs. furthest xs ≤ max r.to (furthest ks)) (list_any (is_within r) ks)
    (λ e. omega arith) (λ e. let k = furthest_placed r ks in omega arith)

pub furthest_beyond : (q : ℕ) (rs : List Range) → furthest (beyond q rs) ≤ furthest rs
furthest_beyond q [] = omega arith
furthest_beyond q (r ∷ rs) = if_case (λ xs. furthest xs ≤ furthest (r ∷ rs)) (nat_lt q r.to)
    (λ e. let rest = furthest_beyond q rs in omega arith) (λ e. let rest = furthest_beyond q rs in omega arith)

-- A range that is added again changes nothing.
within_self : (r : Range) → is_within r r ≡ true
within_self r = grind (arith, nat_tests)

within_placed : (r : Range) (ks : List Range) → list_any (is_within r) (placed r ks) ≡ true
within_placed r [] = either (is_within r r) false (inl (within_self r))
within_placed r (k ∷ ks) = if_case (λ xs. list_any (is_within r) xs ≡ true) (nat_lt r.from k.from)
    (λ e. either (is_within r r) (list_any (is_within r) (k ∷ ks)) (inl (within_self r)))
    (λ e. either (is_within r k) (list_any (is_within r) (placed r ks)) (inr (within_placed r ks)))

within_added : (r : Range) (ks : List Range) → list_any (is_within r) (added r ks) ≡ true
unfolding added
within_added r ks = if_case (λ xs. list_any (is_within r) xs ≡ true) (list_any (is_within r) ks) (λ e. e) (λ e. within_placed r ks)

held_stays : (r : Range) (ks : List Range) → list_any (is_within r) ks ≡ true → added r ks ≡ ks
unfolding added
held_stays r ks any = if_case (λ xs. xs ≡ ks) (list_any (is_within r) ks) (λ e. refl) (λ e. absurd (clash (list_any (is_within r) ks) any e))

pub added_again : (r : Range) (ks : List Range) → added r (added r ks) ≡ added r ks
added_again r ks = held_stays r (added r ks) (within_added r ks)
