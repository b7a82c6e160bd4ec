-- How a run by steps ends where all was executed.
use Rattle.std.proofs.Common.{◌≡◌, ℕ, ◌+◌, ◌≤◌, List, [], ◌++◌, length, min, refl, ap, ◌∙◌, subst, inr, arith}
use Rattle.std.proofs.lemmas.List.{append-nil}
use Rattle.event_order.specs.declared.key.Key.{Key}
use Rattle.event_order.specs.Machine.{within}
use Rattle.std.specs.Prelude.{Bool}
use Rattle.sim_base.specs.Outside.{Appends, AppendsPrefix}
use Rattle.ssf_model.specs.declared.event.Entry.{Entry}
use Rattle.ssf_model.specs.declared.event.Names.{Names}
use Rattle.ssf_model.specs.declared.plan.Plan.{Plan}
use Rattle.ssf_model.specs.Reaction.{Reaction, Validity}
use Rattle.ssf_model.specs.Truth.{AreFew}
use Rattle.alignment.specs.Alignment.{timeline_count}
use Rattle.trace_writer.specs.Trace.{entries_text, end_line, trace_text}
use Rattle.trace_writer.proofs.Writing.{appends_then, prefix_then}
use Rattle.core_traces.specs.Records.{AreAllEntries}
use Rattle.core_traces.specs.Kept.{run_on}
use Rattle.core_traces.specs.Ends.{AreWindows}
use Rattle.step_run.specs.Telling.{MostCounted, Told}
use Rattle.step_run.specs.Endings.{IsPartWritten}
use Rattle.step_run.specs.Going.{Task, Output, IsGiven, IsWhole, IsHalted, IsFinished}
use Rattle.core_traces.proofs.Ends.{few_in_budget}
use Rattle.step_run.proofs.Counting.{few_in_all, few_enough}
use Rattle.step_run.proofs.Beginning.{on_lines}

exact_end : (names : Names) (entries : List Entry) (until count : ℕ) → entries_text names entries ++ end_line until count ≡ trace_text names entries until count
unfolding trace_text
exact_end names entries until count = refl

module _ {B S P : Type 0} (valid : B → Validity S) (carried : B → P → Type 0) (reaction : B → Reaction S P) where
  abbrev pub CountLaw : Type 0
  CountLaw = (b : B) (plan : Plan B S P) (until : ℕ) (kept : Key → Bool) (entries : List Entry) (q : AreAllEntries (reaction b) plan until kept entries) → length entries ≡ q.count

  module _ (names : Names) (until : ℕ) (task : Task B S P) (given : IsGiven (valid task.plan.behaviour) (carried task.plan.behaviour) names until task)
      (told : Told) (crossed last : ℕ) (first now : Output) (w : IsWhole (reaction task.plan.behaviour) names until task told crossed last first now)
      (before : ℕ) (started : task.plan.before ≡ before) (law : CountLaw) where
    abbrev end_text : List ℕ
    end_text = end_line until (min (before + told.count) MostCounted)

    few_entries : length w.entries ≤ 4096000000000000
    few_entries =
        let low : task.budget ≤ task.budget = omega arith in
        let q = w.all task.budget low in
        let s = run_on (reaction task.plan.behaviour) task.plan task.lines task.threshold until (within task.budget) in
        let all = few_in_all s (w.shared task.budget low) task.budget q.count (w.few task.budget low) q.each in
        let few = few_enough q.count (timeline_count task.lines) task.budget all given.few given.most in
        omega (arith, law task.plan.behaviour task.plan until (within task.budget) w.entries q)

    exact_count : min (before + told.count) MostCounted ≡ task.plan.before + length w.entries
    exact_count =
        let few = few_entries in
        let most = given.fits.opened.before in
        let counted = w.counted in
        omega arith

    whole_text : entries_text names w.entries ++ end_text ≡ trace_text names w.entries until (task.plan.before + length w.entries)
    whole_text = exact_end names w.entries until (min (before + told.count) MostCounted) ∙ ap (λ n. trace_text names w.entries until n) exact_count

    pub ends_finished : (then : Output) → then.tally ≡ now.tally → Appends end_text now.held then.held → IsFinished (reaction task.plan.behaviour) names until task crossed last first then
    ends_finished then same text = record {
      traced = record {
        entries = w.entries;
        all = w.all;
        text = subst (λ t. Appends t first.held then.held) whole_text (appends_then (entries_text names w.entries) end_text first.held now.held then.held w.text text);
        tallied = λ others start. same ∙ w.tallied others start;
      };
      few = w.few;
      windows = w.windows;
    }

    pub ends_cut : (then : Output) → AppendsPrefix end_text now.held then.held → IsPartWritten (reaction task.plan.behaviour) task.plan names task.nets task.mode task.threshold until task.budget first.held then.held
    ends_cut then text = inr (record {
      few = on_lines (reaction task.plan.behaviour) until task given.aligned (λ s. AreFew s task.budget) w.few;
      crossed = crossed;
      last = last;
      windows = on_lines (reaction task.plan.behaviour) until task given.aligned (λ s. AreWindows s crossed last) w.windows;
      entries = w.entries;
      all = w.all;
      text = subst (λ t. AppendsPrefix t first.held then.held) (ap (λ t. entries_text names w.entries ++ t) (append-nil end_text) ∙ whole_text)
          (prefix_then (entries_text names w.entries) end_text [] first.held now.held then.held w.text text);
    })

    pub ends_short : (then : Output) → Appends [] now.held then.held → IsHalted (reaction task.plan.behaviour) names until task told.below first then
    ends_short then text = record {
      inside = w.inside;
      written = record {
        entries = w.entries;
        are = w.before;
        text = subst (λ t. Appends t first.held then.held) (append-nil (entries_text names w.entries)) (appends_then (entries_text names w.entries) [] first.held now.held then.held w.text text);
      };
      in_budget = λ most low. few_in_budget (run_on (reaction task.plan.behaviour) task.plan task.lines task.threshold until (within most)) task.budget told.below (w.few most low);
    }
