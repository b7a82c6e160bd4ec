-- The state of a group depends on the group's own events alone.
use Rattle.std.proofs.Common.{◌≡◌, ℕ, zero, suc, ◌+◌, Bool, true, false, List, [], ◌∷◌, ◌++◌, Some, None, refl, sym, ap, ◌∙◌, subst, inl, inr, arith, zero-add, append-nil}
use native.Mathlib.Nat.{suc-add}
use Rattle.std.proofs.lemmas.List.Elements.{filter-append}
use Rattle.event_order.specs.declared.key.Key.{Key}
use Rattle.event_order.proofs.Pending.{test_cases}
use Rattle.event_order.specs.Machine.{Machine, World, after, event, option_list, first_events}
use Rattle.event_order.specs.Run.{NoneBetween, share, acted}
use Rattle.event_order.specs.Laws.{IsLocal}
use Rattle.event_order.proofs.Steps.{Takes, step_cases}

module _ {X E : Type 0} (m : Machine X E) where
  acted_append : (x : X) (es ds : List E) → acted m x (es ++ ds) ≡ acted m (acted m x es) ds
  acted_append x [] ds = refl
  acted_append x (e ∷ es) ds = acted_append (m.acts x e) es ds

module _ {X E : Type 0} (m : Machine X E) (until : ℕ) (kept : Key → Bool) (w : World X E) (mine : E → Bool) where
  -- ---- the share of a group

  pub share_own : (n : ℕ) (e : E) → event m until kept w n ≡ Some e → mine e ≡ true → share m until kept w mine (suc n) ≡ share m until kept w mine n ++ e ∷ []
  share_own n e h own = filter-append mine (first_events m until kept w n) (option_list (event m until kept w n)) ∙ rw (h, own) refl

  pub share_other : (n : ℕ) (e : E) → event m until kept w n ≡ Some e → mine e ≡ false → share m until kept w mine (suc n) ≡ share m until kept w mine n
  share_other n e h other = filter-append mine (first_events m until kept w n) (option_list (event m until kept w n)) ∙ rw (h, other) (append-nil _)

  pub share_over : (n : ℕ) → event m until kept w n ≡ None → share m until kept w mine (suc n) ≡ share m until kept w mine n
  share_over n h = filter-append mine (first_events m until kept w n) (option_list (event m until kept w n)) ∙ rw h (append-nil _)

  -- over a stretch without own events the share stays
  pub share_same : (k n : ℕ) → NoneBetween m until kept w mine n (k + n) → share m until kept w mine (k + n) ≡ share m until kept w mine n
  share_same zero n none = rw zero-add refl
  share_same (suc k) n none = let before = share_same k n (λ j e a b h. none j e a (omega arith) h) in
      rw suc-add (elim (step_cases m until kept (after m until kept w (k + n)).state (after m until kept w (k + n)).pending) [
        | inl t ↦ share_other (k + n) t.head t.due_is (none (k + n) t.head (omega arith) (omega arith) t.due_is) ∙ before
        | inr r ↦ share_over (k + n) r.none ∙ before
      ])

  pub share_next : (k n : ℕ) (e : E) → NoneBetween m until kept w mine n (k + n) → event m until kept w (k + n) ≡ Some e → mine e ≡ true →
      share m until kept w mine (suc (k + n)) ≡ share m until kept w mine n ++ e ∷ []
  share_next k n e none h own = share_own (k + n) e h own ∙ ap (λ es. es ++ e ∷ []) (share_same k n none)

  -- ---- the state of a group

  module _ (fine : X → E → Type 0) (same : X → X → Type 0) (local : IsLocal m mine fine same)
      (all_fine : (n : ℕ) (e : E) → event m until kept w n ≡ Some e → fine (after m until kept w n).state e) where
    next_state : (n : ℕ) (t : Takes m until kept (after m until kept w n).state (after m until kept w n).pending) → (after m until kept w (suc n)).state ≡ m.acts (after m until kept w n).state t.head
    next_state n t = ap (λ (v : World X E). v.state) t.next_is

    -- a stretch without own events leaves the group as it is
    pub unmoved : (k n : ℕ) → NoneBetween m until kept w mine n (k + n) → same (after m until kept w n).state (after m until kept w (k + n)).state
    unmoved zero n none = rw zero-add (local.itself (after m until kept w n).state)
    unmoved (suc k) n none = let before = unmoved k n (λ j e a b h. none j e a (omega arith) h) in
        rw suc-add (elim (step_cases m until kept (after m until kept w (k + n)).state (after m until kept w (k + n)).pending) [
          | inl t ↦ local.trans (after m until kept w n).state (after m until kept w (k + n)).state (after m until kept w (suc (k + n))).state before
              (subst (λ x. same (after m until kept w (k + n)).state x) (sym (next_state (k + n) t))
              (local.stays (after m until kept w (k + n)).state t.head (all_fine (k + n) t.head t.due_is) (none (k + n) t.head (omega arith) (omega arith) t.due_is)))
          | inr r ↦ subst (λ (v : World X E). same (after m until kept w n).state v.state) (sym r.next_is) before
        ])

    -- after n events the group is as its own events among them, one after another, make it
    pub own_state : (n : ℕ) → same (after m until kept w n).state (acted m w.state (share m until kept w mine n))
    own_state zero = local.itself w.state
    own_state (suc n) = elim (step_cases m until kept (after m until kept w n).state (after m until kept w n).pending) [
      | inl t ↦ subst (λ x. same x (acted m w.state (share m until kept w mine (suc n)))) (sym (next_state n t)) (elim (test_cases (mine t.head)) [
        | inl own ↦ subst (λ x. same (m.acts (after m until kept w n).state t.head) x)
            (sym (ap (λ es. acted m w.state es) (share_own n t.head t.due_is own) ∙ acted_append m w.state (share m until kept w mine n) (t.head ∷ [])))
            (local.moves (after m until kept w n).state (acted m w.state (share m until kept w mine n)) t.head (all_fine n t.head t.due_is) own (own_state n))
        | inr other ↦ subst (λ es. same (m.acts (after m until kept w n).state t.head) (acted m w.state es)) (sym (share_other n t.head t.due_is other))
            (local.trans (m.acts (after m until kept w n).state t.head) (after m until kept w n).state (acted m w.state (share m until kept w mine n))
            (local.back (after m until kept w n).state (m.acts (after m until kept w n).state t.head) (local.stays (after m until kept w n).state t.head (all_fine n t.head t.due_is) other)) (own_state n))
      ])
      | inr r ↦ subst (λ (v : World X E). same v.state (acted m w.state (share m until kept w mine (suc n)))) (sym r.next_is)
          (subst (λ es. same (after m until kept w n).state (acted m w.state es)) (sym (share_over n r.none)) (own_state n))
    ]
