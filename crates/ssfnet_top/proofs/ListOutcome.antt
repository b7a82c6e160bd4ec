-- What a run by one event list that writes while it goes on says of its outcome.
use Rattle.std.proofs.Common.{ℕ, ◌≡◌, ◌+◌, ◌∙◌, ap, refl, inl, inr, List, [], ◌++◌, length, Bool, true, false, Option, Result, Ok, Err, OnErr}
use Rattle.sim_base.specs.Outside.{AppendsPrefix}
use Rattle.ssf_model.specs.declared.event.Entry.{Entry}
use Rattle.ssf_model.specs.declared.event.Names.{Names}
use Rattle.ssf_model.specs.declared.plan.Plan.{Plan}
use Rattle.ssf_model.specs.Reaction.{Reaction}
use Rattle.trace_writer.specs.Report.{Totals, totals_of, report_with, report_of}
use Rattle.trace_writer.specs.Trace.{entries_text, trace_text}
use Rattle.list_run.specs.Endings.{AreAll, AreBudget, IsTallied, IsPartWritten}
use Rattle.ssfnet_top.specs.declared.refusal.Refusal.TheVariants as refusal
use Rattle.ssfnet_top.specs.Outcome.{Due, done_with, refused, report_if, IsRunDue}
use Rattle.ssfnet_top.specs.Answering.{report_with_if}
use Rattle.ssfnet_top.proofs.RunOutcome.{whole_due, first_due}

-- the report of what a tally got from nothing on
tallied_report : (wanted : Bool) (before after : Totals) (entries : List Entry) → before ≡ totals_of [] → IsTallied before after entries → report_with_if wanted after ≡ report_if wanted entries
unfolding report_of
tallied_report true before after entries none tallied = ap report_with (tallied [] none)
tallied_report false before after entries none tallied = refl

pub made_of : (wanted : Bool) (old room new : List ℕ) (before after : Totals) (entries : List Entry) → old ≡ [] → room ≡ old → new ≡ room ++ report_with_if wanted after → before ≡ totals_of []
    → IsTallied before after entries → new ≡ report_if wanted entries
made_of wanted old room new before after entries empty same made none tallied =
    made ∙ (ap (λ (t : List ℕ). t ++ report_with_if wanted after) (same ∙ empty) ∙ tallied_report wanted before after entries none tallied)

module _ {B S P : Type 0} (r : Reaction S P) (plan : Plan B S P) (names : Names) (until budget : ℕ) (wanted : Bool) where
  pub all_due : (report : List ℕ) (entries : List Entry) → AreAll r plan until budget entries → report ≡ report_if wanted entries
      → IsRunDue r plan names until budget wanted (done_with report (trace_text names entries until (plan.before + length entries)))
  all_due report entries all is =
      whole_due r plan names until budget wanted entries report (trace_text names entries until (plan.before + length entries)) (plan.before + length entries) all.few all.first all.no_more refl refl is

  pub budget_due : (entries : List Entry) → AreBudget r plan until budget entries → IsRunDue r plan names until budget wanted (refused (refusal.Budget budget) (entries_text names entries))
  budget_due entries are = first_due r plan names until budget wanted entries (entries_text names entries) are.full are.first are.more refl

  -- a part of what is due was written
  pub part_due : (held held' : Option (List ℕ)) → IsPartWritten r plan names until budget held held' → (due : Due) × IsRunDue r plan names until budget wanted due × AppendsPrefix due.out held held'
  part_due held held' (inl p) =
      (done_with (report_if wanted p.entries) (trace_text names p.entries until (plan.before + length p.entries)), all_due (report_if wanted p.entries) p.entries p.all refl, p.text)
  part_due held held' (inr p) = (refused (refusal.Budget budget) (entries_text names p.entries), budget_due p.entries p.are, p.text)

-- what holds where a call failed
pub part_where : {A F Q : Type 0} (answer : Result A F) (x : F) → answer ≡ Err x → OnErr answer Q → Q
part_where (Ok value) x is q = absurd (cc)
part_where (Err fault) x is q = q
