-- Marks that are put and taken away.
use Rattle.std.proofs.Common.{ℕ, zero, suc, ◌≡◌, ◌+◌, ◌/◌, ◌<◌, ◌⊎◌, inl, inr, Bool, true, false, refl, sym, ap, ◌∙◌, subst, arith, List, [], ◌∷◌, length, length-set, set}
use Rattle.marked_numbers.specs.Least.{IsMarked}
use Rattle.marked_numbers.specs.Blocks.{IsBlocked}

pub set_marked : (xs : List Bool) (i j : ℕ) (b : Bool) → IsMarked (set xs i b) j → ((j ≡ i) × (b ≡ true)) ⊎ IsMarked xs j
set_marked [] i j b h = inr h
set_marked (x ∷ xs) zero zero b h = inl (refl, cc)
set_marked (x ∷ xs) zero (suc j) b h = inr h
set_marked (x ∷ xs) (suc i) zero b h = inr h
set_marked (x ∷ xs) (suc i) (suc j) b h = elim (set_marked xs i j b h) [
  | inl s ↦ inl (ap suc s.0, s.1)
  | inr o ↦ inr o
]

pub put_marked : (xs : List Bool) (i : ℕ) → i < length xs → IsMarked (set xs i true) i
put_marked [] i h = absurd (omega arith)
put_marked (x ∷ xs) zero h = refl
put_marked (x ∷ xs) (suc i) h = put_marked xs i (omega arith)

pub stays_marked : (xs : List Bool) (i j : ℕ) (b : Bool) → (j ≡ i → ⊥) → IsMarked xs j → IsMarked (set xs i b) j
stays_marked [] i j b other h = h
stays_marked (x ∷ xs) zero zero b other h = absurd (other refl)
stays_marked (x ∷ xs) zero (suc j) b other h = h
stays_marked (x ∷ xs) (suc i) zero b other h = h
stays_marked (x ∷ xs) (suc i) (suc j) b other h = stays_marked xs i j b (λ e. other (ap suc e)) h

-- ---- blocks

same_or_not : (a b : ℕ) → (a ≡ b) ⊎ (a ≡ b → ⊥)
same_or_not zero zero = inl refl
same_or_not zero (suc b) = inr (λ e. omega arith)
same_or_not (suc a) zero = inr (λ e. omega arith)
same_or_not (suc a) (suc b) = elim (same_or_not a b) [ inl s ↦ inl (ap suc s) | inr o ↦ inr (λ e. o (omega arith)) ]

pub blocked_put : (xs bs : List Bool) (i : ℕ) → i < length xs → IsBlocked xs bs → IsBlocked (set xs i true) (set bs (i / 64) true)
blocked_put xs bs i h q =
    let all = length-set xs i true in
    let some = length-set bs (i / 64) true in
    let within : i / 64 < length bs = omega (arith, q.enough) in
    record {
      few = omega (arith, all, q.few);
      enough = some ∙ (q.enough ∙ ap (λ n. n / 64 + 1) (sym all));
      known = λ n m. elim (set_marked xs i n true m) [
        | inl s ↦ subst (λ k. IsMarked (set bs (i / 64) true) (k / 64)) (sym s.0) (put_marked bs (i / 64) within)
        | inr o ↦ kept n (q.known n o) within
      ];
    }
  where
    kept : (n : ℕ) → IsMarked bs (n / 64) → i / 64 < length bs → IsMarked (set bs (i / 64) true) (n / 64)
    kept n m within = elim (same_or_not (n / 64) (i / 64)) [
      | inl s ↦ subst (λ k. IsMarked (set bs (i / 64) true) k) (sym s) (put_marked bs (i / 64) within)
      | inr o ↦ stays_marked bs (i / 64) (n / 64) true o m
    ]

pub blocked_taken : (xs bs : List Bool) (i : ℕ) → IsBlocked xs bs → IsBlocked (set xs i false) bs
blocked_taken xs bs i q =
    let all = length-set xs i false in
    record {
      few = omega (arith, all, q.few);
      enough = q.enough ∙ ap (λ n. n / 64 + 1) (sym all);
      known = λ n m. elim (set_marked xs i n false m) [
        | inl s ↦ absurd (cc)
        | inr o ↦ q.known n o
      ];
    }
