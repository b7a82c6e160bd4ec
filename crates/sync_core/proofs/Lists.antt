-- Lists in which one item is put at its place.
use Rattle.std.proofs.Common.{ℕ, zero, suc, ◌≡◌, ◌+◌, ◌<◌, ◌≤◌, ◌⊎◌, inl, inr, refl, sym, ap, ◌∙◌, subst, arith, List, [], ◌∷◌, ◌++◌, map, take, drop, length, set, get_or, Some, slice_get, min}
use Rattle.std.specs.List.Sorted.{IsStrictlyIncreasing}
use Rattle.event_order.specs.Pending.{Among}
use Rattle.timeline_parts.specs.Tables.{AreRising}
use Rattle.timeline_parts.proofs.Tables.{rising_places}
use Rattle.timeline.specs.View.{TimelineOf}
use Rattle.timeline.specs.Holding.{low_in}
use Rattle.core_rules.specs.Cores.{CoreView}
use Rattle.core_rules.specs.Reading.{least_low_in, safe_bound_in}
use Rattle.sync_core.specs.Cores.{least_low}

module _ {T : Type 0} where
  -- what stands at a place after the item at place i was changed to `a`
  pub set_cases : (xs : List T) (i j : ℕ) (a x : T) → slice_get (set xs i a) j ≡ Some x → ((j ≡ i) × (x ≡ a)) ⊎ (slice_get xs j ≡ Some x)
  set_cases [] i j a x h = inr h
  set_cases (y ∷ ys) zero zero a x h = inl (refl, cc)
  set_cases (y ∷ ys) zero (suc j) a x h = inr h
  set_cases (y ∷ ys) (suc i) zero a x h = inr h
  set_cases (y ∷ ys) (suc i) (suc j) a x h = elim (set_cases ys i j a x h) [
    | inl s ↦ inl (ap suc s.0, s.1)
    | inr o ↦ inr o
  ]

  -- the same item put at its place changes nothing
  pub set_same : (xs : List T) (i : ℕ) (a : T) → a ≡ get_or xs i a → set xs i a ≡ xs
  set_same [] i a e = refl
  set_same (y ∷ ys) zero a e = ap (λ z. z ∷ ys) e
  set_same (y ∷ ys) (suc i) a e = ap (λ zs. y ∷ zs) (set_same ys i a e)

  pub get_among : (xs : List T) (i : ℕ) (x : T) → slice_get xs i ≡ Some x → Among x xs
  get_among [] i x h = absurd (cc)
  get_among (y ∷ ys) zero x h = let same : y ≡ x = cc in inl (sym same)
  get_among (y ∷ ys) (suc i) x h = inr (get_among ys i x h)

  pub read_among : (xs : List T) (i : ℕ) (x : T) → i < length xs → x ≡ get_or xs i x → Among x xs
  read_among [] i x h e = absurd (omega arith)
  read_among (y ∷ ys) zero x h e = inl e
  read_among (y ∷ ys) (suc i) x h e = inr (read_among ys i x (omega arith) e)

-- the least lower bound, as the code finds it, and that it is at most each
module _ {B S P : Type 0} where
  least_shift : (ts : List (TimelineOf B S P)) (a b : ℕ) → least_low (min a b) ts ≡ min a (least_low b ts)
  least_shift [] a b = refl
  least_shift (t ∷ ts) a b =
      let x = low_in t in
      let group : min (min a b) x ≡ min a (min b x) = omega arith in
      ap (λ n. least_low n ts) group ∙ least_shift ts a (min b x)

  least_same : (ts : List (TimelineOf B S P)) (bound : ℕ) → least_low bound ts ≡ least_low_in bound ts
  least_same [] bound = refl
  least_same (t ∷ ts) bound =
      let x = low_in t in
      let turn : min bound x ≡ min x bound = omega arith in
      ap (λ n. least_low n ts) turn ∙ (least_shift ts x bound ∙ ap (λ n. min x n) (least_same ts bound))

  pub safe_is : (inner core : CoreView B S P) (ts : List (TimelineOf B S P)) → inner ≡ core → ts ≡ inner.timelines → least_low (inner.until + 1) ts ≡ safe_bound_in core
  safe_is inner core ts same is =
      least_same ts (inner.until + 1) ∙ (ap (λ (us : List (TimelineOf B S P)). least_low_in (inner.until + 1) us) is ∙ ap (λ (k : CoreView B S P). safe_bound_in k) same)

  pub least_low_each : (ts : List (TimelineOf B S P)) (bound : ℕ) (t : TimelineOf B S P) → Among t ts → least_low_in bound ts ≤ low_in t
  least_low_each [] bound t a = absurd a
  least_low_each (x ∷ xs) bound t (inl e) =
      let here : least_low_in bound (x ∷ xs) ≤ low_in x = omega arith in
      subst (λ (y : TimelineOf B S P). least_low_in bound (x ∷ xs) ≤ low_in y) (sym e) here
  least_low_each (x ∷ xs) bound t (inr a) = let rest = least_low_each xs bound t a in omega (arith, rest)

-- where the first items were changed, the others are as they were
module _ {T : Type 0} where
  mixed : (f : T → T) (xs : List T) (i : ℕ) (d : T) → get_or (map f (take i xs) ++ drop i xs) i d ≡ get_or xs i d
  mixed f [] zero d = refl
  mixed f [] (suc i) d = refl
  mixed f (x ∷ xs) zero d = refl
  mixed f (x ∷ xs) (suc i) d = mixed f xs i d

  pub rest_read : (f : T → T) (xs ys : List T) (i : ℕ) (x : T) → ys ≡ map f (take i xs) ++ drop i xs → x ≡ get_or ys i x → x ≡ get_or xs i x
  rest_read f xs ys i x is read = read ∙ (ap (λ zs. get_or zs i x) is ∙ mixed f xs i x)

rising_increasing : (ns : List ℕ) → AreRising ns → IsStrictlyIncreasing ns
rising_increasing ns r = λ k h. rising_places ns k (k + 1) r (omega arith) h

pub increasing : (ns ms : List ℕ) → ms ≡ ns → AreRising ns → IsStrictlyIncreasing ms
increasing ns ms same r = subst IsStrictlyIncreasing (sym same) (rising_increasing ns r)
