-- Whatever the cut, as long as it drops no round up to the budget, the answers of the list are the same.
use Rattle.std.proofs.Common.{◌≡◌, ◌⊎◌, ℕ, ◌≤◌, List, refl, sym, ap, ◌∙◌, subst, inl, inr, arith, Option, Some, None, IsSome, length}
use Rattle.event_order.specs.Machine.{within, all_kept}
use Rattle.event_order.proofs.Steps.{ended_later}
use Rattle.ssf_model.specs.declared.event.Event.{Event}
use Rattle.ssf_model.specs.declared.event.Entry.{Entry}
use Rattle.ssf_model.specs.declared.plan.Plan.{Plan}
use Rattle.ssf_model.specs.Reaction.{Reaction}
use Rattle.ssf_model.specs.Run.{machine_of, opening, run_event, run_entries}
use Rattle.run_laws.specs.Openings.{OpensInOrder}
use Rattle.run_laws.proofs.OfPlans.{plan_cut_event, plan_cut_entries}
use Rattle.global_list.specs.declared.single.SingleEnd.{SingleEnd}
use Rattle.global_list.specs.declared.single.SingleEnd.TheVariants.{Finished, OverBudget, Memory}

none_is : {T : Type 0} (o : Option T) → o ≡ None → IsSome o → ⊥
none_is None e some = cc
none_is (Some x) e some = cc

-- ---- the answers of the list, for every cut that drops no round up to the budget

module _ {B S P : Type 0} (r : Reaction S P) (plan : Plan B S P) (until budget : ℕ) (opens : OpensInOrder plan) where
  pub prefix_cut : (told xs : List Entry) → told ≡ xs → xs ≡ run_entries r plan until all_kept (length xs) → length xs ≤ budget →
      (R : ℕ) → budget ≤ R → told ≡ run_entries r plan until (within R) (length told)
  prefix_cut told xs e h most R l =
      rw e (h ∙ sym (plan_cut_entries r plan until opens R (length xs) (omega arith)))

  pub finished_cut : (told xs : List Entry) → told ≡ xs → run_event r plan until all_kept (length xs) ≡ None → length xs ≤ budget →
      (R : ℕ) → budget ≤ R → run_event r plan until (within R) (length told) ≡ None
  finished_cut told xs e h most R l =
      ap (λ (ys : List Entry). run_event r plan until (within R) (length ys)) e ∙ (plan_cut_event r plan until opens R (length xs) (omega arith) ∙ h)

  pub over_cut : IsSome (run_event r plan until all_kept budget) → (R : ℕ) → budget ≤ R → IsSome (run_event r plan until (within R) budget)
  over_cut h R l = subst (λ (o : Option (Event P)). IsSome o) (sym (plan_cut_event r plan until opens R budget l)) h

  -- a list that ended because no event is left is not that of a run of more than `budget` events
  pub exceeded_cut : (xs : List Entry) → run_event r plan until all_kept (length xs) ≡ None → length xs ≤ budget →
      (R : ℕ) → budget ≤ R → IsSome (run_event r plan until (within R) budget) → ⊥
  exceeded_cut xs h most R l more =
      let none : run_event r plan until (within R) budget ≡ None =
      plan_cut_event r plan until opens R budget l ∙ ended_later (machine_of {B = B} r plan.mappings) until all_kept (opening plan) (length xs) budget most h in
      none_is (run_event r plan until (within R) budget) none more

pub other_ends : (end : SingleEnd) → (end ≡ Finished → ⊥) → (end ≡ OverBudget) ⊎ (end ≡ Memory)
other_ends Finished others = absurd (others refl)
other_ends OverBudget others = inl refl
other_ends Memory others = inr refl
