-- Why the next event is not executed.
use Rattle.std.proofs.Common.{◌≡◌, ℕ, ◌<◌, ◌≤◌, true, false, nat_le, nat_lt, List, [], ◌∷◌, refl, ap, ◌∙◌, subst, inl, inr, arith, Some, None}
use Rattle.std.proofs.lemmas.Grind.{common_steps}
use Rattle.event_order.specs.Machine.{due}
use Rattle.event_order.proofs.Pending.{test_cases}
use Rattle.event_order.proofs.Steps.{le_true}
use Rattle.ssf_model.specs.declared.event.Event.{Event}
use Rattle.timeline.specs.declared.answers.Ran.TheVariants.{Idle, Spent}
use Rattle.timeline.specs.View.{TimelineOf, key_of}
use Rattle.timeline.specs.Holding.{bound_in, is_free}
use Rattle.timeline.specs.Executing.{refusal}

pub lt_true : (a b : ℕ) → a < b → nat_lt a b ≡ true
lt_true a b h = grind (arith, common_steps)

module _ {P : Type 0} where
  -- the event that is due is the first, and in time
  pub record IsDue (until : ℕ) (ps : List (Event P)) (e : Event P) : Type 0 where
    pub rest : List (Event P)
    pub is : ps ≡ e ∷ rest
    pub in_time : e.key.time ≤ until

  pub due_is : (until : ℕ) (ps : List (Event P)) (e : Event P) → due key_of until ps ≡ Some e → IsDue until ps e
  due_is until [] e h = absurd (cc)
  due_is until (d ∷ ds) e h = elim (test_cases (nat_le d.key.time until)) [
    | inl t ↦ let g : Some d ≡ Some e = rw t at h in let s : d ≡ e = cc in
        record { rest = ds; is = ap (λ (x : Event P). x ∷ ds) s; in_time = subst (λ (x : Event P). x.key.time ≤ until) s (le_true d.key.time until t) }
    | inr f ↦ let g : None ≡ Some e = rw f at h in absurd (cc)
  ]

  free_is : (bound : ℕ) (ps rest : List (Event P)) (e : Event P) → ps ≡ e ∷ rest → is_free bound ps ≡ nat_lt e.key.time bound
  free_is bound ps rest e h = ap (λ qs. is_free bound qs) h

module _ {B S P : Type 0} (t : TimelineOf B S P) where
  pub refusal_spent : t.spent ≡ true → refusal t ≡ Some Spent
  refusal_spent h = rw h refl

  pub refusal_idle : t.spent ≡ false → due key_of t.until t.pending ≡ None → refusal t ≡ Some Idle
  refusal_idle h d = rw (h, d) refl

  pub refusal_none : (e : Event P) → t.spent ≡ false → due key_of t.until t.pending ≡ Some e → e.key.time < bound_in t → nat_le t.budget t.executed ≡ false → refusal t ≡ None
  refusal_none e h d l o =
      let q = due_is t.until t.pending e d in
      let free : is_free (bound_in t) t.pending ≡ true = free_is (bound_in t) t.pending q.rest e q.is ∙ lt_true e.key.time (bound_in t) l in
      rw (h, d, free, o) refl
