-- One step of a run, and how events come to be pending and are executed.
use Rattle.std.proofs.Common.{◌≡◌, ℕ, zero, suc, ◌+◌, ◌-◌, ◌<◌, ◌≤◌, ◌⊎◌, Bool, true, false, nat_le, List, [], ◌∷◌, filter, Some, None, refl, sym, ap, ◌∙◌, subst, inl, inr, arith, zero-add}
use native.Mathlib.Nat.{suc-add}
use Rattle.std.proofs.lemmas.Grind.{common_steps}
use Rattle.event_order.specs.declared.key.Key.{Key}
use Rattle.event_order.specs.Pending.{Among}
use Rattle.event_order.proofs.Pending.{test_cases, among_put_all_other, among_put_all_self, put_all_among, among_filter, filter_among}
use Rattle.event_order.specs.Machine.{Machine, World, due, executed, stepped, after, event}
use Rattle.event_order.specs.Run.{WrittenAt, WrittenBefore, ExecutedWithin, Arises}

-- an event is executed
pub record Takes {X E : Type 0} (m : Machine X E) (until : ℕ) (kept : Key → Bool) (x : X) (ps : List E) : Type 0 where
  pub head : E
  pub rest : List E
  pub is : ps ≡ head ∷ rest
  pub due_is : due m.key until ps ≡ Some head
  pub next_is : stepped m until kept x ps ≡ executed m kept x head rest
  pub in_time : (m.key head).time ≤ until

-- none is
pub record Rests {X E : Type 0} (m : Machine X E) (until : ℕ) (kept : Key → Bool) (x : X) (ps : List E) : Type 0 where
  pub none : due m.key until ps ≡ None
  pub next_is : stepped m until kept x ps ≡ record { state = x; pending = ps }

pub le_true : (a b : ℕ) → nat_le a b ≡ true → a ≤ b
le_true a b h = grind (arith, common_steps)

pub le_false : (a b : ℕ) → nat_le a b ≡ false → b < a
le_false a b h = grind (arith, common_steps)

pub le_test : (a b : ℕ) → a ≤ b → nat_le a b ≡ true
le_test a b h = grind (arith, common_steps)

pub lt_or_ge : (a b : ℕ) → (a < b) ⊎ (b ≤ a)
lt_or_ge a b = elim (test_cases (nat_le b a)) [ inl t ↦ inr (le_true b a t) | inr f ↦ inl (le_false b a f) ]

pub lt_or_same : (a b : ℕ) → a ≤ b → (a < b) ⊎ (a ≡ b)
lt_or_same a b h = elim (lt_or_ge a b) [ inl l ↦ inl l | inr g ↦ inr (omega arith) ]

pub difference : (n k : ℕ) → n ≤ k → (d : ℕ) × (k ≡ d + n)
difference n k g = (k - n, omega arith)

-- ---- one step

module _ {X E : Type 0} (m : Machine X E) (until : ℕ) (kept : Key → Bool) where
  pub step_cases : (x : X) (ps : List E) → Takes m until kept x ps ⊎ Rests m until kept x ps
  step_cases x [] = inr (record { none = refl; next_is = refl })
  step_cases x (e ∷ es) = elim (test_cases (nat_le (m.key e).time until)) [
    | inl t ↦ inl (record { head = e; rest = es; is = refl; due_is = rw t refl; next_is = rw t refl; in_time = le_true _ _ t })
    | inr f ↦ inr (record { none = rw f refl; next_is = rw f refl })
  ]

  pub due_among : (ps : List E) (e : E) → due m.key until ps ≡ Some e → Among e ps
  due_among [] e h = absurd (cc)
  due_among (d ∷ ds) e h = elim (test_cases (nat_le (m.key d).time until)) [
    | inl t ↦ let g : Some d ≡ Some e = rw t at h in inl (let s : e ≡ d = cc in s)
    | inr f ↦ let g : None ≡ Some e = rw f at h in absurd (cc)
  ]

  pub due_in_time : (ps : List E) (e : E) → due m.key until ps ≡ Some e → (m.key e).time ≤ until
  due_in_time [] e h = absurd (cc)
  due_in_time (d ∷ ds) e h = elim (test_cases (nat_le (m.key d).time until)) [
    | inl t ↦ let g : Some d ≡ Some e = rw t at h in let s : d ≡ e = cc in subst (λ b. (m.key b).time ≤ until) s (le_true _ _ t)
    | inr f ↦ let g : None ≡ Some e = rw f at h in absurd (cc)
  ]

  -- where none is due, each that is pending first has a time past `until`
  pub late_head : (e : E) (es : List E) → due m.key until (e ∷ es) ≡ None → until < (m.key e).time
  late_head e es h = elim (test_cases (nat_le (m.key e).time until)) [
    | inl t ↦ let g : Some e ≡ None = rw t at h in absurd (cc)
    | inr f ↦ le_false _ _ f
  ]

  module _ (w : World X E) where
    world : ℕ → World X E
    world n = after m until kept w n

    -- ---- pending events

    pub pending_from : (n : ℕ) (x : E) → Among x (after m until kept w (suc n)).pending → Among x (after m until kept w n).pending ⊎ WrittenAt m until kept w n x
    pending_from n x a = elim (step_cases (after m until kept w n).state (after m until kept w n).pending) [
      | inl t ↦ elim (put_all_among m.key x _ _ (subst (λ (v : World X E). Among x v.pending) t.next_is a)) [
        | inl b ↦ let p = filter_among (λ d. kept (m.key d)) x _ b in
            inr (record { by = t.head; is = t.due_is; among = p.among; passes = p.passes })
        | inr b ↦ inl (subst (λ ds. Among x ds) (sym t.is) (inr b))
      ]
      | inr r ↦ inl (subst (λ (v : World X E). Among x v.pending) r.next_is a)
    ]

    pub pending_to : (n : ℕ) (x : E) → Among x (after m until kept w n).pending → Among x (after m until kept w (suc n)).pending ⊎ (event m until kept w n ≡ Some x)
    pending_to n x a = elim (step_cases (after m until kept w n).state (after m until kept w n).pending) [
      | inl t ↦ elim (let b : Among x (t.head ∷ t.rest) = subst (λ ds. Among x ds) t.is a in b) [
        | inl e ↦ inr (t.due_is ∙ ap Some (sym e))
        | inr b ↦ inl (subst (λ (v : World X E). Among x v.pending) (sym t.next_is)
            (among_put_all_other m.key x (filter (λ d. kept (m.key d)) (m.writes (after m until kept w n).state t.head)) t.rest b))
      ]
      | inr r ↦ inl (subst (λ (v : World X E). Among x v.pending) (sym r.next_is) a)
    ]

    pub written_to : (n : ℕ) (x : E) → WrittenAt m until kept w n x → Among x (after m until kept w (suc n)).pending
    written_to n x a = elim (step_cases (after m until kept w n).state (after m until kept w n).pending) [
      | inl t ↦ let same : Some a.by ≡ Some t.head = sym a.is ∙ t.due_is in let by : a.by ≡ t.head = cc in
          subst (λ (v : World X E). Among x v.pending) (sym t.next_is) (among_put_all_self m.key x _ t.rest
          (among_filter (λ d. kept (m.key d)) x _ (subst (λ e. Among x (m.writes (after m until kept w n).state e)) by a.among) a.passes))
      | inr r ↦ let same : Some a.by ≡ None = sym a.is ∙ r.none in absurd (cc)
    ]

    pub event_pending : (n : ℕ) (x : E) → event m until kept w n ≡ Some x → Among x (after m until kept w n).pending
    event_pending n x h = due_among (after m until kept w n).pending x h

    pub event_in_time : (n : ℕ) (x : E) → event m until kept w n ≡ Some x → (m.key x).time ≤ until
    event_in_time n x h = due_in_time (after m until kept w n).pending x h

    -- an event, and then the step that it makes
    pub after_event : (n : ℕ) (e : E) → event m until kept w n ≡ Some e → (rest : List E) × ((after m until kept w n).pending ≡ e ∷ rest)
        × (after m until kept w (suc n) ≡ executed m kept (after m until kept w n).state e rest)
    after_event n e h = elim (step_cases (after m until kept w n).state (after m until kept w n).pending) [
      | inl t ↦ let same : Some e ≡ Some t.head = sym h ∙ t.due_is in let by : t.head ≡ e = cc in
          (t.rest, t.is ∙ ap (λ d. d ∷ t.rest) by, t.next_is ∙ ap (λ d. executed m kept (after m until kept w n).state d t.rest) by)
      | inr r ↦ let same : Some e ≡ None = sym h ∙ r.none in absurd (cc)
    ]

    pub state_after : (n : ℕ) (e : E) → event m until kept w n ≡ Some e → (after m until kept w (suc n)).state ≡ m.acts (after m until kept w n).state e
    state_after n e h = ap (λ (v : World X E). v.state) (after_event n e h).2

    -- after the end all stays
    pub over_next : (n : ℕ) → event m until kept w n ≡ None → after m until kept w (suc n) ≡ after m until kept w n
    over_next n h = elim (step_cases (after m until kept w n).state (after m until kept w n).pending) [
      | inl t ↦ let same : None ≡ Some t.head = sym h ∙ t.due_is in absurd (cc)
      | inr r ↦ r.next_is
    ]

    pub over_after : (k n : ℕ) → event m until kept w n ≡ None → after m until kept w (k + n) ≡ after m until kept w n
    over_after zero n h = rw zero-add refl
    over_after (suc k) n h = rw suc-add (over_next (k + n) (ap (λ (v : World X E). due m.key until v.pending) (over_after k n h) ∙ h) ∙ over_after k n h)

    pub over_later : (k n : ℕ) → event m until kept w n ≡ None → event m until kept w (k + n) ≡ None
    over_later k n h = ap (λ (v : World X E). due m.key until v.pending) (over_after k n h) ∙ h

    pub ended_after : (n k : ℕ) → n ≤ k → event m until kept w n ≡ None → after m until kept w k ≡ after m until kept w n
    ended_after n k g h = let d = difference n k g in subst (λ j. after m until kept w j ≡ after m until kept w n) (sym d.1) (over_after d.0 n h)

    pub ended_later : (n k : ℕ) → n ≤ k → event m until kept w n ≡ None → event m until kept w k ≡ None
    ended_later n k g h = ap (λ (v : World X E). due m.key until v.pending) (ended_after n k g h) ∙ h

    -- each event has a number below the end
    pub before_end : (n k : ℕ) (e : E) → event m until kept w n ≡ None → event m until kept w k ≡ Some e → k < n
    before_end n k e h f = elim (lt_or_ge k n) [
      | inl l ↦ l
      | inr g ↦ let there : (d : ℕ) × (k ≡ d + n) = difference n k g in
          let same : None ≡ Some e = sym (over_later there.0 n h) ∙ ap (λ j. event m until kept w j) (sym there.1) ∙ f in absurd (cc)
    ]

    -- ---- the law of provenance

    pub provenance : (n : ℕ) (x : E) → Among x (after m until kept w n).pending → Among x w.pending ⊎ WrittenBefore m until kept w n x
    provenance zero x a = inl a
    provenance (suc n) x a = elim (pending_from n x a) [
      | inl b ↦ elim (provenance n x b) [
        | inl o ↦ inl o
        | inr s ↦ inr (record { at = s.at; before = omega (arith, s.before); written = s.written })
      ]
      | inr s ↦ inr (record { at = n; before = omega arith; written = s })
    ]

    pub event_arises : (n : ℕ) (x : E) → event m until kept w n ≡ Some x → Among x w.pending ⊎ WrittenBefore m until kept w n x
    event_arises n x h = provenance n x (event_pending n x h)

    pub pending_arises : (n : ℕ) (x : E) → Among x (after m until kept w n).pending → Arises m until kept w x
    pending_arises n x a = elim (provenance n x a) [ inl o ↦ inl o | inr s ↦ inr (s.at, s.written) ]

    -- ---- the law of completeness

    pub completeness : (k n : ℕ) (x : E) → Among x (after m until kept w n).pending → Among x (after m until kept w (k + n)).pending ⊎ ExecutedWithin m until kept w n (k + n) x
    completeness zero n x a = inl (rw zero-add a)
    completeness (suc k) n x a = rw suc-add (elim (completeness k n x a) [
      | inl b ↦ elim (pending_to (k + n) x b) [
        | inl c ↦ inl c
        | inr e ↦ inr (record { at = k + n; from = omega arith; below = omega arith; is = e })
      ]
      | inr d ↦ inr (record { at = d.at; from = d.from; below = omega (arith, d.below); is = d.is })
    ])
