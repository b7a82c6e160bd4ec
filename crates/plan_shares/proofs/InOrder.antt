-- The lists of a share are in order.
use Rattle.std.proofs.Common.{◌≡◌, ℕ, zero, suc, ◌+◌, ◌<◌, ◌≤◌, Bool, false, cond, nat_eq, List, [], ◌∷◌, ◌++◌, length, map, slice_get, Some, None, refl, sym, ap, ◌∙◌, subst, inl, inr, arith}
use Rattle.std.specs.List.{filter, flat_map, enumerate_from, range_with_len}
use Rattle.event_order.specs.Pending.{Among}
use Rattle.event_order.proofs.Pending.{test_cases, among_append_left, among_append_right, append_among, filter_among, filter_apart, rising_apart}
use Rattle.ssf_model.specs.declared.entity.Entity.{Entity}
use Rattle.ssf_model.specs.declared.plan.Mapping.{Mapping}
use Rattle.ssf_model.specs.declared.plan.Plan.{Plan}
use Rattle.ssf_model.specs.Reaction.{Validity}
use Rattle.ssf_model.specs.Run.{Fits, IsWired, timers_of}
use Rattle.ssf_model.proofs.Lists.{among_range, above_range, among_map, mapped_among}
use Rattle.alignment.specs.Classes.{is_cross}
use Rattle.timeline_parts.specs.Tables.{numbers_of, AreRising, AreNumbered, item_at}
use Rattle.timeline_parts.specs.Settling.{key_of}
use Rattle.timeline_parts.specs.Parts.{IsPart, channel_of}
use Rattle.plan_shares.specs.Shares.{is_on, entities_on, timers_in, timers_on, mapped_on, channels_on, counted_in, cross_of, crosses_of, share_of}
use Rattle.plan_shares.proofs.ForEach.{same_test, other_test}

-- ---- numbers that rise

pub range_rising : (first n : ℕ) → AreRising (range_with_len first n)
range_rising first zero = tt
range_rising first (suc n) = ((λ k a. let low = above_range (first + 1) n k a in omega arith), range_rising (first + 1) n)

pub rising_first : (xs ys : List ℕ) → AreRising (xs ++ ys) → AreRising xs
rising_first [] ys r = tt
rising_first (x ∷ xs) ys r = ((λ k a. r.0 k (among_append_left k xs ys a)), rising_first xs ys r.1)

pub rising_rest : (xs ys : List ℕ) → AreRising (xs ++ ys) → AreRising ys
rising_rest [] ys r = r
rising_rest (x ∷ xs) ys r = rising_rest xs ys r.1

pub rising_append : (xs ys : List ℕ) → AreRising xs → AreRising ys → ((x y : ℕ) → Among x xs → Among y ys → x < y) → AreRising (xs ++ ys)
rising_append [] ys r s below = s
rising_append (x ∷ xs) ys r s below = (
  (λ k a. elim (append_among k xs ys a) [ inl b ↦ r.0 k b | inr c ↦ below x k (inl refl) c ]),
  rising_append xs ys r.1 s (λ y z a b. below y z (inr a) b),
)

module _ {T : Type 0} where
  -- a filter keeps what is in order
  pub mapped_rising : (f : T → ℕ) (p : T → Bool) (xs : List T) → AreRising (map f xs) → AreRising (map f (filter p xs))
  mapped_rising f p [] r = tt
  mapped_rising f p (x ∷ xs) r = elim (test_cases (p x)) [
    | inl t ↦ rw t (
      (λ k a. (let found = among_map f k (filter p xs) a in
          let kept = filter_among p found.of xs found.among in
          subst (λ m. f x < m) (sym found.is) (r.0 (f found.of) (mapped_among f found.of xs kept.among)))),
      mapped_rising f p xs r.1,
    )
    | inr n ↦ rw n (mapped_rising f p xs r.1)
  ]

  pub flat_kept : (f : T → List ℕ) (p : T → Bool) (xs : List T) (k : ℕ) → Among k (flat_map f (filter p xs)) → Among k (flat_map f xs)
  flat_kept f p [] k a = absurd a
  flat_kept f p (x ∷ xs) k a = elim (test_cases (p x)) [
    | inl t ↦ (let b : Among k (f x ++ flat_map f (filter p xs)) = rw t at a in
        elim (append_among k (f x) (flat_map f (filter p xs)) b) [
          | inl here ↦ among_append_left k (f x) (flat_map f xs) here
          | inr later ↦ among_append_right k (f x) (flat_map f xs) (flat_kept f p xs k later)
        ])
    | inr n ↦ (let b : Among k (flat_map f (filter p xs)) = rw n at a in among_append_right k (f x) (flat_map f xs) (flat_kept f p xs k b))
  ]

  pub flat_rising : (f : T → List ℕ) (p : T → Bool) (xs : List T) → AreRising (flat_map f xs) → AreRising (flat_map f (filter p xs))
  flat_rising f p [] r = tt
  flat_rising f p (x ∷ xs) r =
      let rest = flat_rising f p xs (rising_rest (f x) (flat_map f xs) r) in
      elim (test_cases (p x)) [
        | inl t ↦ rw t (rising_append (f x) (flat_map f (filter p xs)) (rising_first (f x) (flat_map f xs) r) rest
            (λ y z a b. across (f x) (flat_map f xs) r y z a (flat_kept f p xs z b)))
        | inr n ↦ rw n rest
      ]
    where
      across : (ys zs : List ℕ) → AreRising (ys ++ zs) → (y z : ℕ) → Among y ys → Among z zs → y < z
      across [] zs r y z a b = absurd a
      across (u ∷ us) zs r y z (inl e) b = subst (λ w. w < z) (sym e) (r.0 z (among_append_right z us zs b))
      across (u ∷ us) zs r y z (inr a) b = across us zs r.1 y z a b

-- ---- the numbers of a list's items

module _ {T : Type 0} where
  number_above : (n : ℕ) (xs : List T) (k : ℕ) → Among k (numbers_of (enumerate_from n xs)) → n ≤ k
  number_above n [] k a = absurd a
  number_above n (x ∷ xs) k (inl e) = omega arith
  number_above n (x ∷ xs) k (inr a) = let low = number_above (n + 1) xs k a in omega arith

  enumerate_rising : (n : ℕ) (xs : List T) → AreNumbered (enumerate_from n xs)
  enumerate_rising n [] = tt
  enumerate_rising n (x ∷ xs) = ((λ k a. let low = number_above (n + 1) xs k a in omega arith), enumerate_rising (n + 1) xs)

  pub entities_rise : (lines : List ℕ) (i : ℕ) (es : List T) → AreNumbered (entities_on lines i es)
  entities_rise lines i es = mapped_rising (λ (x : ℕ × T). x.0) (λ x. is_on lines i x.0) (enumerate_from 0 es) (enumerate_rising 0 es)

  -- ---- the item with a number

  none_before : (p : ℕ × T → Bool) (n k : ℕ) (xs : List T) → k < n → item_at k (filter p (enumerate_from n xs)) ≡ None
  none_before p n k [] h = refl
  none_before p n k (x ∷ xs) h =
      let rest = none_before p (n + 1) k xs (omega arith) in
      let other : nat_eq k n ≡ false = other_test k n (λ e. absurd (omega arith)) in
      elim (test_cases (p (n, x))) [
        | inl t ↦ rw (t, other) rest
        | inr f ↦ rw f rest
      ]

  item_from : (q : ℕ → Bool) (n m k : ℕ) (xs : List T) → n + k ≡ m → item_at m (filter (λ x. q x.0) (enumerate_from n xs)) ≡ cond (q m) (slice_get xs k) None
  item_from q n m k [] h = elim (test_cases (q m)) [ inl t ↦ rw t refl | inr f ↦ rw f refl ]
  item_from q n m zero (x ∷ xs) h =
      let same : n ≡ m = omega arith in
      subst (λ w. item_at w (filter (λ x. q x.0) (enumerate_from n (x ∷ xs))) ≡ cond (q w) (Some x) None) same (elim (test_cases (q n)) [
        | inl t ↦ rw (t, same_test n) refl
        | inr f ↦ rw f (none_before (λ y. q y.0) (n + 1) n xs (omega arith))
      ])
  item_from q n m (suc k) (x ∷ xs) h =
      let rest = item_from q (n + 1) m k xs (omega arith) in
      let other : nat_eq m n ≡ false = other_test m n (λ e. absurd (omega arith)) in
      elim (test_cases (q n)) [
        | inl t ↦ rw (t, other) rest
        | inr f ↦ rw f rest
      ]

  pub entity_at : (lines : List ℕ) (i k : ℕ) (es : List T) → item_at k (entities_on lines i es) ≡ cond (is_on lines i k) (slice_get es k) None
  entity_at lines i k es = item_from (is_on lines i) 0 k k es (omega arith)

-- ---- channels

pub numbers_counted : (counts cs : List ℕ) → numbers_of (map (counted_in counts) cs) ≡ cs
numbers_counted counts [] = refl
numbers_counted counts (c ∷ cs) = ap (λ xs. c ∷ xs) (numbers_counted counts cs)

timers_numbered : {B S P : Type 0} (n : ℕ) (es : List (Entity B S P)) → flat_map (λ x. timers_in x.1.processes) (enumerate_from n es) ≡ timers_of es
timers_numbered n [] = refl
timers_numbered n (e ∷ es) = ap (λ xs. timers_in e.processes ++ xs) (timers_numbered (n + 1) es)

channels_numbered : (threshold n : ℕ) (ms : List Mapping) → map channel_of (map (cross_of threshold) (enumerate_from n ms)) ≡ map (λ (m : Mapping). m.channel) ms
channels_numbered threshold n [] = refl
channels_numbered threshold n (m ∷ ms) = ap (λ xs. m.channel ∷ xs) (channels_numbered threshold (n + 1) ms)

module _ {B S P : Type 0} (plan : Plan B S P) (wired : IsWired plan) (lines : List ℕ) where
  mappings_rise : AreRising (map (λ (m : Mapping). m.channel) plan.mappings)
  mappings_rise = subst AreRising (sym wired.channels) (range_rising (length plan.entities + length (timers_of plan.entities)) (length plan.mappings))

  timers_rise : (i : ℕ) → AreRising (timers_on lines i plan.entities)
  timers_rise i = flat_rising (λ (x : ℕ × Entity B S P). timers_in x.1.processes) (λ x. is_on lines i x.0) (enumerate_from 0 plan.entities)
      (subst AreRising (sym (timers_numbered 0 plan.entities ∙ wired.timers)) (range_rising (length plan.entities) (length (timers_of plan.entities))))

  timer_below : (i c : ℕ) → Among c (timers_on lines i plan.entities) → c < length plan.entities + length (timers_of plan.entities)
  timer_below i c a =
      let all = flat_kept (λ (x : ℕ × Entity B S P). timers_in x.1.processes) (λ x. is_on lines i x.0) (enumerate_from 0 plan.entities) c a in
      among_range (length plan.entities) (length (timers_of plan.entities)) c (subst (λ xs. Among c xs) (timers_numbered 0 plan.entities ∙ wired.timers) all)

  mapped_above : (i c : ℕ) → Among c (mapped_on lines i plan.mappings) → length plan.entities + length (timers_of plan.entities) ≤ c
  mapped_above i c a =
      let found = among_map (λ (m : Mapping). m.channel) c (filter (λ m. is_on lines i m.from) plan.mappings) a in
      let kept = filter_among (λ (m : Mapping). is_on lines i m.from) found.of plan.mappings found.among in
      above_range (length plan.entities + length (timers_of plan.entities)) (length plan.mappings) c
      (subst (λ xs. Among c xs) wired.channels (subst (λ d. Among d (map (λ (m : Mapping). m.channel) plan.mappings)) (sym found.is) (mapped_among (λ (m : Mapping). m.channel) found.of plan.mappings kept.among)))

  channels_rise : (i : ℕ) → AreRising (channels_on plan lines i)
  channels_rise i =
      rising_append (timers_on lines i plan.entities) (mapped_on lines i plan.mappings) (timers_rise i)
      (mapped_rising (λ (m : Mapping). m.channel) (λ m. is_on lines i m.from) plan.mappings mappings_rise)
      (λ x y a b. let low = timer_below i x a in let high = mapped_above i y b in omega arith)

  pub crosses_rise : (threshold : ℕ) → AreRising (map channel_of (crosses_of lines threshold plan.mappings))
  crosses_rise threshold =
      subst AreRising (sym (channels_numbered threshold 0 (filter (is_cross lines) plan.mappings)))
      (mapped_rising (λ (m : Mapping). m.channel) (is_cross lines) plan.mappings mappings_rise)

  pub share_in_order : {valid : Validity S} {carried : P → Type 0} → Fits valid carried plan → (threshold i : ℕ) → IsPart (share_of plan lines threshold i)
  share_in_order fits threshold i = record {
    entities = entities_rise lines i plan.entities;
    counts = subst AreRising (sym (numbers_counted plan.counts (channels_on plan lines i))) (channels_rise i);
    ins = mapped_rising channel_of (λ x. is_on lines i x.mapping.to) (crosses_of lines threshold plan.mappings) (crosses_rise threshold);
    outs = mapped_rising channel_of (λ x. is_on lines i x.mapping.from) (crosses_of lines threshold plan.mappings) (crosses_rise threshold);
    events = filter_apart key_of (λ e. is_on lines i e.entity) plan.events (rising_apart key_of plan.events fits.opened.rising);
  }
