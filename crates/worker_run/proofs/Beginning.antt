-- How a run by workers begins, and what its end says of each answer.
use Rattle.std.proofs.Common.{◌≡◌, ℕ, ◌≤◌, List, [], sym, ap, ◌∙◌, subst, arith}
use Rattle.std.proofs.lemmas.List.{append-nil}
use Rattle.event_order.specs.Machine.{within}
use Rattle.sim_base.specs.Outside.{Rose, Appends}
use Rattle.ssf_model.specs.declared.event.Names.{Names}
use Rattle.ssf_model.specs.declared.plan.Plan.{Plan}
use Rattle.ssf_model.specs.Reaction.{Reaction, Validity, LatestTime}
use Rattle.ssf_model.specs.Run.{Fits}
use Rattle.run_health.specs.Healthy.{MostEvents}
use Rattle.alignment.specs.declared.labels.Mode.{Mode}
use Rattle.alignment.specs.Alignment.{IsAlignment, line_of}
use Rattle.trace_writer.specs.Trace.{entries_text}
use Rattle.trace_writer.specs.Report.{totals_of}
use Rattle.trace_writer.proofs.Writing.{appends_none}
use Rattle.core_rules.specs.Cores.{CoreView}
use Rattle.core_rules.specs.Beginning.{IsFirstCore}
use Rattle.core_traces.specs.Records.{AreEntriesBelow}
use Rattle.core_traces.specs.Kept.{run_on, AreSoundFrom}
use Rattle.core_traces.specs.Ends.{IsInBudget}
use Rattle.step_run.specs.declared.running.StepEnd.{StepEnd}
use Rattle.step_run.specs.declared.running.StepEnd.TheVariants.{Memory}
use Rattle.step_run.specs.Telling.{Told}
use Rattle.step_run.specs.Endings.{IfWrite}
use Rattle.step_run.specs.Going.{Task, Output, IsGiven}
use Rattle.step_run.proofs.Beginning.{NoneLaw, on_lines, end_told, none_told, caused, if_begun}
use Rattle.step_run.proofs.Beginning.{caused_later as steps_caused_later}
use Rattle.worker_run.specs.declared.running.WorkEnd.{WorkEnd}
use Rattle.worker_run.specs.declared.running.WorkEnd.TheVariants.{Ended, Stopped}
use Rattle.worker_run.specs.Working.{IfEnded, IfStopped, IfBegun}
use Rattle.worker_run.specs.Going.{KeepsFrom, IsUnderWay, GoesOn, HasWorked, IsWorkTold, IsCaused}

module _ {B S P : Type 0} (valid : B → Validity S) (carried : B → P → Type 0) (reaction : B → Reaction S P) where
  abbrev pub FirstLaw : Type 0
  FirstLaw = (b : B) (plan : Plan B S P) (nets : List ℕ) (mode : Mode) (lines : List ℕ) (threshold until budget most : ℕ) (core : CoreView B S P)
      → Fits (valid b) (carried b) plan → IsAlignment plan nets mode lines → until ≤ LatestTime → budget ≤ MostEvents → budget ≤ most
      → IsFirstCore plan lines threshold until budget core
      → AreSoundFrom plan (line_of lines) (run_on (reaction b) plan lines threshold until (within most)) budget core 0

  module _ (names : Names) (until : ℕ) (task : Task B S P) (given : IsGiven (valid task.plan.behaviour) (carried task.plan.behaviour) names until task)
      (core : CoreView B S P) (is_first : IsFirstCore task.plan task.lines task.threshold until task.budget core) (law : FirstLaw) where
    first_keeps : KeepsFrom (reaction task.plan.behaviour) until task core 0
    first_keeps most low =
        law task.plan.behaviour task.plan task.nets task.mode task.lines task.threshold until task.budget most core given.fits given.aligned given.in_time given.most low is_first

    pub first_goes_on : GoesOn valid carried reaction names until core
    first_goes_on = record { task = task; given = given; from = 0; keeps = first_keeps }

    pub first_under_way : NoneLaw valid carried reaction → (told : Told) (first : Output) → told.count ≡ 0 → told.below ≡ 0 → IsUnderWay (reaction task.plan.behaviour) names until task core told first first
    unfolding entries_text
    first_under_way none told first count below = record {
      entries = [];
      keeps = subst (λ f. KeepsFrom (reaction task.plan.behaviour) until task core f) (sym below) first_keeps;
      before = λ most low. subst (λ f. AreEntriesBelow (reaction task.plan.behaviour) task.plan until (within most) f []) (sym below) (none task.plan.behaviour task.plan until (within most));
      counted = omega arith;
      text = appends_none first.held;
      tallied = λ others is. is ∙ ap totals_of (sym (append-nil others));
    }

-- ---- what the end of a task says of each answer

module _ {B S P : Type 0} (r : Reaction S P) (names : Names) (until : ℕ) (task : Task B S P) (first now : Output) where
  pub work_told : IsAlignment task.plan task.nets task.mode task.lines → (end : WorkEnd) → HasWorked r names until task first now end → IsWorkTold r names until task first now end
  work_told own (Ended end) h = record { told = end_told r names until task first now own end h; stopped = tt; in_budget = tt }
  work_told own (Stopped worker below) h = record { told = tt; stopped = h; in_budget = on_lines r until task own (λ s. IsInBudget s task.budget below) h.halted.in_budget }

  -- where there was no memory to begin
  pub no_work_told : Appends [] first.held now.held → IsWorkTold r names until task first now (Ended Memory)
  no_work_told none = record { told = none_told r names until task first now none; stopped = tt; in_budget = tt }

-- ---- of any end

pub if_ended_each : (end : WorkEnd) (Q R : StepEnd → Type 0) → ((steps : StepEnd) → Q steps → R steps) → IfEnded end Q → IfEnded end R
if_ended_each (Ended end) Q R f h = f end h
if_ended_each (Stopped worker below) Q R f h = tt

pub if_stopped_each : (end : WorkEnd) (Q R : ℕ → ℕ → Type 0) → ((worker below : ℕ) → Q worker below → R worker below) → IfStopped end Q → IfStopped end R
if_stopped_each (Ended end) Q R f h = tt
if_stopped_each (Stopped worker below) Q R f h = f worker below h

pub work_begun : (Q : Type 0) → Q → (end : WorkEnd) → IfBegun end Q
work_begun Q q (Ended end) = if_begun Q q end
work_begun Q q (Stopped worker below) = q

pub work_caused : (faults faults' : ℕ) (end : WorkEnd) → IsCaused faults faults' end → IfEnded end (λ steps. IfWrite steps (Rose faults faults'))
work_caused faults faults' (Ended end) h = caused faults faults' end h
work_caused faults faults' (Stopped worker below) h = tt

pub caused_later : (a b faults : ℕ) (end : WorkEnd) → a ≤ b → IsCaused b faults end → IsCaused a faults end
caused_later a b faults (Ended end) l h = steps_caused_later a b faults end l h
caused_later a b faults (Stopped worker below) l h = tt
