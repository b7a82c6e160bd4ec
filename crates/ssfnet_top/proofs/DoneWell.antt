-- What is due with status 0 is done, where nothing failed and memory was there.
use Rattle.std.proofs.Common.{ℕ, ◌≡◌, ◌∙◌, sym, ap, subst, ◌⊎◌, inl, inr, arith, Option}
use Rattle.sim_base.specs.Outside.{Files, Rose}
use Rattle.command_words.specs.Words.{Asked}
use Rattle.ssfnet_top.specs.Outcome.{Due, IsAskedDue}
use Rattle.ssfnet_top.specs.Refusals.{status_of}
use Rattle.ssfnet_top.specs.declared.refusal.Refusal.{Refusal}
use Rattle.ssfnet_top.specs.declared.refusal.Refusal.TheVariants as refusal
use Rattle.ssfnet_top.specs.Agreeing.{Agree}
use Rattle.ssfnet_top.specs.Ending.{Outside, IsMet, IsDone, IsNothing, IsEndedMidway, Says, Ends}
use Rattle.ssfnet_top.proofs.OneOutcome.{asked_agrees}

-- an outcome that agrees with one of status 0 is the same
same_where_well : (due other : Due) → Agree due other → due.status ≡ 0 → due ≡ other
same_where_well due other (inl same) well = same
same_where_well due other (inr together) well =
    absurd (let eight : due.status ≡ 8 = ap (λ (d : Due). d.status) together.first in omega (arith, eight, well))

-- neither the library nor a sink failed
pub record NoneRose (before after : Outside) : Type 0 where
  pub read : ¬ Rose before.read_faults after.read_faults
  pub out : ¬ Rose before.out_faults after.out_faults
  pub err : ¬ Rose before.err_faults after.err_faults

module _ (asked : Option Asked) (due : Due) (status : ℕ) (before after : Outside) (none : NoneRose before after) where
  -- a line is told wholly
  told_wholly : (r : Refusal) → Says r status before after → status ≡ status_of r
  told_wholly r (inl told) = told.0
  told_wholly r (inr half) = absurd (none.err half.1)

  well_done : (other : Due) → due ≡ other → due.status ≡ 0 → IsDone asked other status before after → ((status ≡ 0) × IsMet due status before after) ⊎ (status ≡ 1)
  well_done other same well (inl met) =
      let here : IsMet due status before after = subst (λ (d : Due). IsMet d status before after) (sym same) met in
      inl (here.status_is ∙ well, here)
  well_done other same well (inr (inl half)) = absurd (none.err half.err.1)
  well_done other same well (inr (inr (inl wanting))) = inr (told_wholly refusal.Memory wanting.line)
  well_done other same well (inr (inr (inr unwritten))) = absurd (none.out unwritten.rose)

  module _ (files : Files) (going : ¬ (status ≡ 9)) where
    nothing_done : IsNothing files asked status before after → status ≡ 1
    nothing_done nothing = elim nothing.cause [
      | inl memory ↦ told_wholly refusal.Memory memory
      | inr unread ↦ absurd (none.read unread.rose)
    ]

    ended_done : IsEndedMidway files asked status before after → status ≡ 1
    ended_done midway = elim midway.ended [
      | inl short ↦ told_wholly (refusal.MemoryBelow midway.below) short.line
      | inr (inl stop) ↦ absurd (going (told_wholly (refusal.Stopped stop.worker midway.below) stop.line))
      | inr (inr broken) ↦ absurd (none.out broken.rose)
    ]

    pub done_well : IsAskedDue files asked due → due.status ≡ 0 → Ends files asked status before after → ((status ≡ 0) × IsMet due status before after) ⊎ (status ≡ 1)
    done_well is well (inl (other, another, done)) = well_done other (same_where_well due other (asked_agrees files asked due other is another) well) well done
    done_well is well (inr (inl nothing)) = inr (nothing_done nothing)
    done_well is well (inr (inr midway)) = inr (ended_done midway)
