-- The entries of a run: those of some of its events are a part of them all, in their order, and stand in key order. Those
-- before a time are the first ones, and what timelines kept as their histories gives them back.
use Rattle.std.proofs.Common.{ℕ, zero, suc, ◌≡◌, ◌<◌, ◌≤◌, ◌∙◌, sym, ap, subst, refl, inl, inr, Bool, true, false, cond, nat_lt, List, [], ◌∷◌, ◌++◌, Option, Some, None, arith, append-nil, eq-eqb}
use Rattle.std.specs.List.{filter, flat_map}
use Rattle.std.proofs.lemmas.Grind.{common_steps}
use Rattle.std.proofs.lemmas.List.Elements.{filter-append}
use Rattle.event_order.specs.Order.{IsBefore}
use Rattle.event_order.specs.Pending.{Among, IsRising}
use Rattle.event_order.proofs.Order.{before_time}
use Rattle.event_order.proofs.Pending.{test_cases, among_append_left, among_append_right, append_among, rising_append, rising_same}
use Rattle.event_order.specs.Machine.{option_list}
use Rattle.event_order.proofs.Steps.{lt_or_ge, lt_or_same}
use Rattle.ssf_model.specs.declared.event.Entry.{Entry}
use Rattle.ssf_model.specs.Scene.{Scene, world_at, event_at, time_of}
use Rattle.ssf_model.specs.Truth.{is_on_line, entries_that, all_entries, line_entries, entries_below, IsPassed, HasReached, IsMerged, IsCut}

below_true : (a b : ℕ) → a < b → nat_lt a b ≡ true
below_true a b h = grind (arith, common_steps)

below_false : (a b : ℕ) → b ≤ a → nat_lt a b ≡ false
below_false a b h = grind (arith, common_steps)

below_is : (a b : ℕ) → nat_lt a b ≡ true → a < b
below_is a b h = grind (arith, common_steps)

module _ {X E : Type 0} (s : Scene X E) where
  -- what one event that passes a test adds to the entries
  abbrev told : (E → Bool) → ℕ → Option E → List Entry
  told test n o = flat_map (λ e. cond (test e) (s.entry (world_at s n).state e ∷ []) []) (option_list o)

  -- where two tests agree on the first n events, the entries are the same
  same_told : (test other : E → Bool) (n : ℕ) (o : Option E) → ((e : E) → o ≡ Some e → test e ≡ other e) → told test n o ≡ told other n o
  same_told test other n None same = refl
  same_told test other n (Some e) same = rw (same e refl) refl

  pub same_that : (test other : E → Bool) (n : ℕ) → ((j : ℕ) (e : E) → j < n → event_at s j ≡ Some e → test e ≡ other e) → entries_that s test n ≡ entries_that s other n
  same_that test other zero same = refl
  same_that test other (suc n) same =
      ap (λ xs. xs ++ told test n (event_at s n)) (same_that test other n (λ j e l at. same j e (omega arith) at))
      ∙ ap (λ xs. entries_that s other n ++ xs) (same_told test other n (event_at s n) (λ e at. same n e (omega arith) at))

  -- ---- a part of all

  module _ (test : E → Bool) (on : Entry → Bool) (told_on : (x : X) (e : E) → on (s.entry x e) ≡ test e) where
    part_told : (n : ℕ) (o : Option E) → told test n o ≡ filter on (told (λ e. true) n o)
    part_told n None = refl
    part_told n (Some e) = elim (test_cases (test e)) [
      | inl t ↦ let passes : on (s.entry (world_at s n).state e) ≡ true = told_on (world_at s n).state e ∙ t in rw (t, passes) refl
      | inr f ↦ let fails : on (s.entry (world_at s n).state e) ≡ false = told_on (world_at s n).state e ∙ f in rw (f, fails) refl
    ]

    pub part_of_all : (n : ℕ) → entries_that s test n ≡ filter on (all_entries s n)
    part_of_all zero = refl
    part_of_all (suc n) =
        ap (λ xs. xs ++ told test n (event_at s n)) (part_of_all n)
        ∙ ap (λ xs. filter on (all_entries s n) ++ xs) (part_told n (event_at s n))
        ∙ sym (filter-append on (all_entries s n) (told (λ e. true) n (event_at s n)))

  -- ---- what is among the entries

  -- an entry of one of the first n events that pass the test
  pub record IsToldBy (test : E → Bool) (n : ℕ) (x : Entry) : Type 0 where
    pub number : ℕ
    pub event : E
    pub below : number < n
    pub is : event_at s number ≡ Some event
    pub passes : test event ≡ true
    pub told : x ≡ s.entry (world_at s number).state event

  told_by : (test : E → Bool) (n : ℕ) (o : Option E) (x : Entry) → event_at s n ≡ o → Among x (told test n o) → IsToldBy test (suc n) x
  told_by test n None x at a = absurd a
  told_by test n (Some e) x at a = elim (test_cases (test e)) [
    | inl t ↦ let b : Among x (s.entry (world_at s n).state e ∷ []) = rw t at a in
        elim b [ inl is ↦ record { number = n; event = e; below = omega arith; is = at; passes = t; told = is } | inr none ↦ absurd none ]
    | inr f ↦ let b : Among x [] = rw f at a in absurd b
  ]

  pub among_told : (test : E → Bool) (n : ℕ) (x : Entry) → Among x (entries_that s test n) → IsToldBy test n x
  among_told test zero x a = absurd a
  among_told test (suc n) x a = elim (append_among x (entries_that s test n) (told test n (event_at s n)) a) [
    | inl b ↦ let t = among_told test n x b in record { number = t.number; event = t.event; below = omega (arith, t.below); is = t.is; passes = t.passes; told = t.told }
    | inr b ↦ told_by test n (event_at s n) x refl b
  ]

  told_here : (test : E → Bool) (n : ℕ) (o : Option E) (e : E) → o ≡ Some e → test e ≡ true → Among (s.entry (world_at s n).state e) (told test n o)
  told_here test n None e at passes = absurd (cc)
  told_here test n (Some d) e at passes = let same : d ≡ e = cc in rw (same, passes) (inl refl)

  pub told_among : (test : E → Bool) (n j : ℕ) (e : E) → j < n → event_at s j ≡ Some e → test e ≡ true → Among (s.entry (world_at s j).state e) (entries_that s test n)
  told_among test zero j e l at passes = absurd (omega arith)
  told_among test (suc n) j e l at passes = elim (lt_or_same j n (omega arith)) [
    | inl before ↦ among_append_left (s.entry (world_at s j).state e) (entries_that s test n) (told test n (event_at s n)) (told_among test n j e before at passes)
    | inr same ↦ among_append_right (s.entry (world_at s j).state e) (entries_that s test n) (told test n (event_at s n))
        (subst (λ k. Among (s.entry (world_at s j).state e) (told test k (event_at s k))) same (told_here test j (event_at s j) e at passes))
  ]

  -- ---- the entries before a time

  module _ (v n : ℕ) (cut : IsCut s v n) where
    pub below_at_cut : entries_below s v n ≡ all_entries s n
    below_at_cut = same_that (λ e. nat_lt (time_of s e) v) (λ e. true) n (λ j e l at. below_true (time_of s e) v (cut.early j e at l))

    none_later : (k : ℕ) (o : Option E) → event_at s k ≡ o → n ≤ k → told (λ e. nat_lt (time_of s e) v) k o ≡ []
    none_later k None at later = refl
    none_later k (Some e) at later = rw (below_false (time_of s e) v (cut.late k e at later)) refl

    -- from the moment of a time on they stay as they are
    pub below_after_cut : (k : ℕ) → n ≤ k → entries_below s v k ≡ all_entries s n
    below_after_cut zero later = let none : n ≡ 0 = omega arith in subst (λ m. [] ≡ all_entries s m) (sym none) refl
    below_after_cut (suc k) later = elim (lt_or_same n (suc k) later) [
      | inl before ↦
          ap (λ xs. entries_below s v k ++ xs) (none_later k (event_at s k) refl (omega arith))
          ∙ append-nil (entries_below s v k)
          ∙ below_after_cut k (omega arith)
      | inr same ↦ subst (λ m. entries_below s v m ≡ all_entries s n) same below_at_cut
    ]

  -- ---- the order of entries

  module _ (keyed : (x : X) (e : E) → (s.entry x e).key ≡ s.machine.key e)
      (rise : (n k : ℕ) (e d : E) → n < k → event_at s n ≡ Some e → event_at s k ≡ Some d → IsBefore (s.machine.key e) (s.machine.key d)) where
    told_rises : (test : E → Bool) (n : ℕ) (o : Option E) → event_at s n ≡ o → IsRising (λ (x : Entry). x.key) (entries_that s test n) → IsRising (λ (x : Entry). x.key) (entries_that s test n ++ told test n o)
    told_rises test n None at before = rw (append-nil (entries_that s test n)) before
    told_rises test n (Some e) at before = elim (test_cases (test e)) [
      | inl t ↦ rw t (rising_append (λ (x : Entry). x.key) (entries_that s test n) (s.entry (world_at s n).state e) before (λ x a.
          let by = among_told test n x a in
          let first : s.machine.key by.event ≡ x.key = sym (keyed (world_at s by.number).state by.event) ∙ ap (λ (y : Entry). y.key) (sym by.told) in
          subst (λ k. IsBefore k (s.entry (world_at s n).state e).key) first
          (subst (λ k. IsBefore (s.machine.key by.event) k) (sym (keyed (world_at s n).state e)) (rise by.number n by.event e by.below by.is at))))
      | inr f ↦ rw (f, append-nil (entries_that s test n)) before
    ]

    pub entries_rise : (test : E → Bool) (n : ℕ) → IsRising (λ (x : Entry). x.key) (entries_that s test n)
    entries_rise test zero = tt
    entries_rise test (suc n) = told_rises test n (event_at s n) refl (entries_rise test n)

    -- times do not fall along the run
    times_rise : (n k : ℕ) (e d : E) → n ≤ k → event_at s n ≡ Some e → event_at s k ≡ Some d → time_of s e ≤ time_of s d
    times_rise n k e d l at there = elim (lt_or_same n k l) [
      | inl before ↦ before_time (s.machine.key e) (s.machine.key d) (rise n k e d before at there)
      | inr same ↦ let both : Some e ≡ Some d = sym at ∙ subst (λ j. event_at s j ≡ Some d) (sym same) there in let one : e ≡ d = cc in omega (arith, ap (λ x. time_of s x) one)
    ]

    -- ---- each time has its moment

    cut_from : (v n : ℕ) (o : Option E) → event_at s n ≡ o → IsPassed s v (suc n) → (IsPassed s v n → (k : ℕ) × IsCut s v k) → (k : ℕ) × IsCut s v k
    cut_from v n None at within fewer = fewer (λ j e is early. elim (lt_or_same j n (let l = within j e is early in omega arith)) [
      | inl before ↦ before
      | inr same ↦ let both : None ≡ Some e = sym at ∙ subst (λ k. event_at s k ≡ Some e) same is in absurd (cc)
    ])
    cut_from v n (Some d) at within fewer = elim (lt_or_ge (time_of s d) v) [
      | inl early ↦ (
        suc n,
        record {
          early = λ j e is l. let less = times_rise j n e d (omega arith) is at in omega arith;
          late = λ j e is later. elim (lt_or_ge (time_of s e) v) [ inl less ↦ let l = within j e is less in absurd (omega arith) | inr more ↦ more ];
        },
      )
      | inr late ↦ fewer (λ j e is early. elim (lt_or_same j n (let l = within j e is early in omega arith)) [
        | inl before ↦ before
        | inr same ↦
            let both : Some d ≡ Some e = sym at ∙ subst (λ k. event_at s k ≡ Some e) same is in
            let one : d ≡ e = cc in
            absurd (omega (arith, ap (λ x. time_of s x) one))
      ])
    ]

    pub cut_of : (v n : ℕ) → IsPassed s v n → (k : ℕ) × IsCut s v k
    cut_of v zero within = (0, record { early = λ j e is l. absurd (omega arith); late = λ j e is later. elim (lt_or_ge (time_of s e) v) [ inl less ↦ let l = within j e is less in absurd (omega arith) | inr more ↦ more ] })
    cut_of v (suc n) within = cut_from v n (event_at s n) refl within (λ fewer. cut_of v n fewer)

    -- ---- histories of timelines, each up to a moment of its own

    module _ (v n : ℕ) (cut : IsCut s v n) (at : ℕ → ℕ) (reached : HasReached s v at) (merged : List Entry) (is : IsMerged s v at merged) where
      entry_time : (x : Entry) (j : ℕ) (e : E) → x ≡ s.entry (world_at s j).state e → x.key.time ≡ time_of s e
      entry_time x j e told = ap (λ (y : Entry). y.key.time) told ∙ ap (λ k. k.time) (keyed (world_at s j).state e)

      merged_first : (x : Entry) → Among x merged → Among x (all_entries s n)
      merged_first x a =
          let kept = is.from x a in
          let by = among_told (is_on_line s kept.0) (at kept.0) x kept.1 in
          let time = entry_time x by.number by.event by.told in
          let low = kept.2 in
          let before : by.number < n = elim (lt_or_ge by.number n) [ inl l ↦ l | inr l ↦ let late = cut.late by.number by.event by.is l in absurd (omega arith) ] in
          subst (λ y. Among y (all_entries s n)) (sym by.told) (told_among (λ e. true) n by.number by.event before by.is refl)

      first_merged : (x : Entry) → Among x (all_entries s n) → Among x merged
      first_merged x a =
          let by = among_told (λ e. true) n x a in
          let time = entry_time x by.number by.event by.told in
          let early = cut.early by.number by.event by.is by.below in
          let i = s.line by.event in
          let there = told_among (is_on_line s i) (at i) by.number by.event (reached by.number by.event by.is early) by.is (eq-eqb i i refl) in
          is.whole x i (subst (λ y. Among y (line_entries s i (at i))) (sym by.told) there) (omega arith)

      pub merged_is : merged ≡ all_entries s n
      merged_is = rising_same (λ (x : Entry). x.key) merged (all_entries s n) is.rising (entries_rise (λ e. true) n) merged_first first_merged
