-- How the lists of the out-channels' mappings grow.
use Rattle.std.proofs.Common.{◌≡◌, ℕ, zero, suc, ◌+◌, ◌<◌, Bool, false, cond, nat_eq, eqb, List, [], ◌∷◌, ◌++◌, length, get_or, set, refl, sym, ap, ◌∙◌, inl, inr, arith, append-nil, eqb-true, take, filter}
use Rattle.std.proofs.lemmas.List.{get_or_default, take_more}
use Rattle.std.proofs.Math.Seq.{take-length}
use Rattle.ssf_model.specs.declared.plan.Mapping.{Mapping}
use Rattle.global_list.specs.FanOut.{mappings_on}
use Rattle.std.proofs.lemmas.Grind.{common_steps}
use Rattle.event_order.proofs.Pending.{test_cases}

-- an empty list more changes nothing
pub grown_same : {T : Type 0} (xss : List (List T)) (i : ℕ) → get_or (xss ++ [] ∷ []) i [] ≡ get_or xss i []
grown_same [] zero = refl
grown_same [] (suc i) = refl
grown_same (xs ∷ xss) zero = refl
grown_same (xs ∷ xss) (suc i) = grown_same xss i

put_own : {T : Type 0} (xss : List (List T)) (k : ℕ) (xs : List T) → k < length xss → get_or (set xss k xs) k [] ≡ xs
put_own [] k xs h = absurd (omega arith)
put_own (ys ∷ xss) zero xs h = refl
put_own (ys ∷ xss) (suc k) xs h = put_own xss k xs (omega arith)

put_other : {T : Type 0} (xss : List (List T)) (k i : ℕ) (xs : List T) → (k ≡ i → ⊥) → get_or (set xss k xs) i [] ≡ get_or xss i []
put_other [] k i xs h = refl
put_other (ys ∷ xss) zero zero xs h = absurd (h refl)
put_other (ys ∷ xss) zero (suc i) xs h = refl
put_other (ys ∷ xss) (suc k) zero xs h = refl
put_other (ys ∷ xss) (suc k) (suc i) xs h = put_other xss k i xs (λ e. h (ap suc e))

pub different : (k i : ℕ) → eqb k i ≡ false → k ≡ i → ⊥
different k i f e = grind (arith, common_steps)

-- one item more at place k
pub put_same : {T : Type 0} (xss : List (List T)) (k i : ℕ) (x : T) (xs ys : List T) → k < length xss → xs ≡ ys ++ x ∷ [] → ys ≡ get_or xss k ys →
    get_or (set xss k xs) i [] ≡ get_or xss i [] ++ cond (eqb k i) (x ∷ []) []
put_same xss k i x xs ys h e f = elim (test_cases (eqb k i)) [
  | inl t ↦ let same : k ≡ i = eqb-true k i t in rw (t, ← same) (put_own xss k xs h ∙ (e ∙ ap (λ zs. zs ++ x ∷ []) (f ∙ get_or_default xss k ys [] h)))
  | inr n ↦ rw (n, append-nil) (put_other xss k i xs (different k i n))
]

-- ---- the mappings so far

filter_two : {T : Type 0} (p : T → Bool) (xs ys : List T) → filter p (xs ++ ys) ≡ filter p xs ++ filter p ys
filter_two p [] ys = refl
filter_two p (x ∷ xs) ys = elim (test_cases (p x)) [ inl t ↦ rw t (ap (λ zs. x ∷ zs) (filter_two p xs ys)) | inr f ↦ rw f (filter_two p xs ys) ]

pub by_out_next : (ms items : List Mapping) (i out : ℕ) (d : Mapping) (old new : List Mapping) → items ≡ ms → i < length items →
    old ≡ mappings_on out (take i ms) → new ≡ old ++ mappings_on out (get_or items i d ∷ []) → new ≡ mappings_on out (take (i + 1) ms)
by_out_next ms items i out d old new same h before now =
    let most : i < length ms = omega (arith, ap length same) in
    now ∙ (ap (λ xs. xs ++ mappings_on out (get_or items i d ∷ [])) before
    ∙ (ap (λ (xs : List Mapping). mappings_on out (take i ms) ++ mappings_on out (get_or xs i d ∷ [])) same
    ∙ (sym (filter_two (λ (m : Mapping). nat_eq m.out_channel out) (take i ms) (get_or ms i d ∷ [])) ∙ ap (mappings_on out) (sym (take_more ms i d most)))))

pub by_out_all : (ms items : List Mapping) (i out : ℕ) (old : List Mapping) → items ≡ ms → i ≡ length items → old ≡ mappings_on out (take i ms) → old ≡ mappings_on out ms
by_out_all ms items i out old same e before =
    let all : take i ms ≡ ms = rw (e, same) (take-length ms) in before ∙ ap (mappings_on out) all
