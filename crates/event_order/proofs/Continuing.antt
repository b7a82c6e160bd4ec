-- A run that goes on from one of its worlds, and runs to a later end.
use Rattle.std.proofs.Common.{◌≡◌, ◌⊎◌, ℕ, zero, suc, ◌+◌, ◌<◌, ◌≤◌, true, nat_le, Bool, List, [], ◌∷◌, refl, ap, ◌∙◌, inl, inr, arith, Option, Some, None, zero-add, suc-add}
use Rattle.event_order.specs.declared.key.Key.{Key}
use Rattle.event_order.specs.Machine.{Machine, World, due, stepped, after, event}
use Rattle.event_order.proofs.Pending.{test_cases}
use Rattle.event_order.proofs.Steps.{le_true, le_test, ended_later}

module _ {X E : Type 0} (m : Machine X E) (until : ℕ) (kept : Key → Bool) where
  -- after n events and k more the run is where k events lead from the world after n
  pub goes_on : (w : World X E) (n k : ℕ) → after m until kept w (k + n) ≡ after m until kept (after m until kept w n) k
  goes_on w n zero = rw zero-add refl
  goes_on w n (suc k) = rw suc-add (ap (λ (v : World X E). stepped m until kept v.state v.pending) (goes_on w n k))

some_or_none : {E : Type 0} (o : Option E) → ((e : E) × (o ≡ Some e)) ⊎ (o ≡ None)
some_or_none None = inr refl
some_or_none (Some e) = inl (e, refl)

module _ {X E : Type 0} (m : Machine X E) (until later : ℕ) (less : until ≤ later) (kept : Key → Bool) where
  due_longer : (ps : List E) (e : E) → due m.key until ps ≡ Some e → due m.key later ps ≡ Some e
  due_longer [] e h = absurd (cc)
  due_longer (d ∷ ds) e h = elim (test_cases (nat_le (m.key d).time until)) [
    | inl t ↦ let same : Some d ≡ Some e = rw t at h in
        let early : nat_le (m.key d).time later ≡ true = le_test (m.key d).time later (omega (arith, le_true (m.key d).time until t)) in rw early same
    | inr f ↦ let none : None ≡ Some e = rw f at h in absurd (cc)
  ]

  step_longer : (x : X) (ps : List E) (e : E) → due m.key until ps ≡ Some e → stepped m later kept x ps ≡ stepped m until kept x ps
  step_longer x [] e h = refl
  step_longer x (d ∷ ds) e h = elim (test_cases (nat_le (m.key d).time until)) [
    | inl t ↦ let early : nat_le (m.key d).time later ≡ true = le_test (m.key d).time later (omega (arith, le_true (m.key d).time until t)) in rw (early, t) refl
    | inr f ↦ let none : None ≡ Some e = rw f at h in absurd (cc)
  ]

  module _ (w : World X E) where
    -- as long as the run to the earlier end has events, the one to the later end has the same
    same_while : (n : ℕ) → ((j : ℕ) → j < n → (d : E) × (event m until kept w j ≡ Some d)) → after m later kept w n ≡ after m until kept w n
    same_while zero more = refl
    same_while (suc n) more =
        let v = after m until kept w n in
        let before = same_while n (λ j l. more j (omega arith)) in
        let here = more n (omega arith) in
        ap (λ (u : World X E). stepped m later kept u.state u.pending) before ∙ step_longer v.state v.pending here.0 here.1

    has_earlier : (n : ℕ) (e : E) → event m until kept w n ≡ Some e → (j : ℕ) → j < suc n → (d : E) × (event m until kept w j ≡ Some d)
    has_earlier n e h j l = elim (some_or_none (event m until kept w j)) [
      | inl some ↦ some
      | inr none ↦ let over = ended_later m until kept w j n (omega arith) none in absurd (cc)
    ]

    pub longer_world : (n : ℕ) (e : E) → event m until kept w n ≡ Some e → after m later kept w (suc n) ≡ after m until kept w (suc n)
    longer_world n e h = same_while (suc n) (has_earlier n e h)

    pub longer_event : (n : ℕ) (e : E) → event m until kept w n ≡ Some e → event m later kept w n ≡ Some e
    longer_event n e h =
        let same : after m later kept w n ≡ after m until kept w n = same_while n (λ j l. has_earlier n e h j (omega arith)) in
        ap (λ (u : World X E). due m.key later u.pending) same ∙ due_longer (after m until kept w n).pending e h
