-- The history and the state of a timeline that executes its next event.
use Rattle.std.proofs.Common.{◌≡◌, ℕ, zero, suc, ◌+◌, true, false, [], ◌∷◌, ◌++◌, Some, None, refl, sym, ap, ◌∙◌, subst, inl, inr, arith, zero-add, suc-add, append-nil}
use Rattle.event_order.specs.Run.{NoneBetween}
use Rattle.event_order.specs.Laws.{IsLocal}
use Rattle.event_order.proofs.Local.{unmoved}
use Rattle.event_order.proofs.Steps.{state_after}
use Rattle.ssf_model.specs.Scene.{Scene, world_at, event_at}
use Rattle.ssf_model.specs.Truth.{is_on_line, line_entries, IsNext}
use Rattle.sync_rules.proofs.Runs.{some_or_none}

module _ {X E : Type 0} (s : Scene X E) (i : ℕ) where
  -- ---- the history

  entries_own : (n : ℕ) (e : E) → event_at s n ≡ Some e → is_on_line s i e ≡ true → line_entries s i (suc n) ≡ line_entries s i n ++ s.entry (world_at s n).state e ∷ []
  entries_own n e is own = rw (is, own) refl

  entries_other : (n : ℕ) (e : E) → event_at s n ≡ Some e → is_on_line s i e ≡ false → line_entries s i (suc n) ≡ line_entries s i n
  entries_other n e is other = rw (is, other) (append-nil (line_entries s i n))

  entries_none : (n : ℕ) → event_at s n ≡ None → line_entries s i (suc n) ≡ line_entries s i n
  entries_none n is = rw is (append-nil (line_entries s i n))

  entries_same : (k n : ℕ) → NoneBetween s.machine s.until s.kept s.opening (is_on_line s i) n (k + n) → line_entries s i (k + n) ≡ line_entries s i n
  entries_same zero n none = rw zero-add refl
  entries_same (suc k) n none =
      let before = entries_same k n (λ j e a b is. none j e a (omega arith) is) in
      rw suc-add (elim (some_or_none (event_at s (k + n))) [
        | inl some ↦ entries_other (k + n) some.0 some.1 (none (k + n) some.0 (omega arith) (omega arith) some.1) ∙ before
        | inr over ↦ entries_none (k + n) over ∙ before
      ])

  -- the history grows by the entry of the next event
  pub entries_next : (n : ℕ) (h : E) → (q : IsNext s i n h) → is_on_line s i h ≡ true → line_entries s i (suc (q.wait + n)) ≡ line_entries s i n ++ s.entry (world_at s (q.wait + n)).state h ∷ []
  entries_next n h q own = entries_own (q.wait + n) h q.is own ∙ ap (λ es. es ++ s.entry (world_at s (q.wait + n)).state h ∷ []) (entries_same q.wait n q.none)

  -- ---- the state

  -- a timeline whose part of the state is that of the run at its moment: the next event does there what it does in the run
  module _ (fine : X → E → Type 0) (same : X → X → Type 0) (local : IsLocal s.machine (is_on_line s i) fine same)
      (all_fine : (n : ℕ) (e : E) → event_at s n ≡ Some e → fine (world_at s n).state e)
      (n : ℕ) (h : E) (q : IsNext s i n h) (own : is_on_line s i h ≡ true) (x : X) (here : same x (world_at s n).state) where
    there : same (world_at s (q.wait + n)).state x
    there = local.back x (world_at s (q.wait + n)).state
        (local.trans x (world_at s n).state (world_at s (q.wait + n)).state here (unmoved s.machine s.until s.kept s.opening (is_on_line s i) fine same local all_fine q.wait n q.none))

    pub next_writes : s.machine.writes (world_at s (q.wait + n)).state h ≡ s.machine.writes x h
    next_writes = local.writes (world_at s (q.wait + n)).state x h (all_fine (q.wait + n) h q.is) own there

    pub next_same : same (s.machine.acts x h) (world_at s (suc (q.wait + n))).state
    next_same = subst (λ y. same (s.machine.acts x h) y) (sym (state_after s.machine s.until s.kept s.opening (q.wait + n) h q.is))
        (local.back (s.machine.acts (world_at s (q.wait + n)).state h) (s.machine.acts x h)
        (local.moves (world_at s (q.wait + n)).state x h (all_fine (q.wait + n) h q.is) own there))

    -- before the event too
    pub same_there : same x (world_at s (q.wait + n)).state
    same_there = local.back (world_at s (q.wait + n)).state x there
