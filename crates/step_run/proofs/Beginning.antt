-- How a run by steps begins, and what its end says of each answer.
use Rattle.std.proofs.Common.{◌≡◌, ◌⊎◌, inl, inr, ℕ, ◌<◌, ◌≤◌, List, [], sym, ap, ◌∙◌, subst, arith}
use Rattle.std.specs.Prelude.{Bool}
use Rattle.std.proofs.lemmas.List.{append-nil}
use Rattle.event_order.specs.declared.key.Key.{Key}
use Rattle.event_order.specs.Machine.{within}
use Rattle.sim_base.specs.Outside.{Rose, Appends}
use Rattle.ssf_model.specs.declared.event.Event.{Event}
use Rattle.ssf_model.specs.declared.event.Names.{Names}
use Rattle.ssf_model.specs.declared.plan.Plan.{Plan}
use Rattle.ssf_model.specs.Reaction.{Reaction, Validity, LatestTime}
use Rattle.ssf_model.specs.Run.{Fits, States}
use Rattle.ssf_model.specs.Scene.{Scene}
use Rattle.ssf_model.specs.Truth.{AreFew}
use Rattle.run_health.specs.Healthy.{MostEvents}
use Rattle.alignment.specs.declared.labels.Mode.{Mode}
use Rattle.alignment.specs.declared.timelines.AlignFault.{AlignFault}
use Rattle.alignment.specs.declared.timelines.AlignFault.TheVariants as fault_of
use Rattle.alignment.specs.Alignment.{IsAlignment, line_of, timeline_count}
use Rattle.alignment.proofs.Lawful.{alignment_one}
use Rattle.trace_writer.specs.Trace.{entries_text}
use Rattle.trace_writer.specs.Report.{totals_of}
use Rattle.trace_writer.proofs.Writing.{appends_none}
use Rattle.core_rules.specs.Cores.{CoreView}
use Rattle.core_rules.specs.Beginning.{IsFirstCore}
use Rattle.core_traces.specs.Records.{AreEntriesBelow}
use Rattle.core_traces.specs.Kept.{run_on, IsCoreFrom}
use Rattle.core_traces.specs.Ends.{AreWindows, IsInBudget, EndsBudget}
use Rattle.step_run.specs.declared.running.StepEnd.{StepEnd}
use Rattle.step_run.specs.declared.running.StepEnd.TheVariants.{Finished, OverBudget, MemoryBelow, Memory, TooManyTimelines, Write}
use Rattle.step_run.specs.Telling.{Told}
use Rattle.step_run.specs.Endings.{IfTooMany, IfWrite, IfBegun, OnTimelines}
use Rattle.step_run.specs.Going.{Task, Output, IsGiven, KeepsFrom, IsUnderWay, GoesOn, HasEnded, IsTold, IsCaused}

module _ {B S P : Type 0} (valid : B → Validity S) (carried : B → P → Type 0) (reaction : B → Reaction S P) where
  abbrev pub FirstLaw : Type 0
  FirstLaw = (b : B) (plan : Plan B S P) (nets : List ℕ) (mode : Mode) (lines : List ℕ) (threshold until budget most : ℕ) (core : CoreView B S P)
      → Fits (valid b) (carried b) plan → IsAlignment plan nets mode lines → until ≤ LatestTime → budget ≤ MostEvents → budget ≤ most
      → IsFirstCore plan lines threshold until budget core
      → IsCoreFrom plan (line_of lines) (run_on (reaction b) plan lines threshold until (within most)) budget core 0

  abbrev pub NoneLaw : Type 0
  NoneLaw = (b : B) (plan : Plan B S P) (until : ℕ) (kept : Key → Bool) → AreEntriesBelow (reaction b) plan until kept 0 []

  module _ (names : Names) (until : ℕ) (task : Task B S P) (given : IsGiven (valid task.plan.behaviour) (carried task.plan.behaviour) names until task)
      (core : CoreView B S P) (is_first : IsFirstCore task.plan task.lines task.threshold until task.budget core) (law : FirstLaw) where
    first_keeps : KeepsFrom (reaction task.plan.behaviour) until task core 0
    first_keeps most low =
        law task.plan.behaviour task.plan task.nets task.mode task.lines task.threshold until task.budget most core given.fits given.aligned given.in_time given.most low is_first

    pub first_goes_on : GoesOn valid carried reaction names until core
    first_goes_on = record { task = task; given = given; from = 0; keeps = first_keeps }

    pub first_under_way : NoneLaw → (told : Told) (first : Output) → told.count ≡ 0 → told.below ≡ 0 → IsUnderWay (reaction task.plan.behaviour) names until task core told first first
    unfolding entries_text
    first_under_way none told first count below = record {
      entries = [];
      keeps = subst (λ f. KeepsFrom (reaction task.plan.behaviour) until task core f) (sym below) first_keeps;
      before = λ most low. subst (λ f. AreEntriesBelow (reaction task.plan.behaviour) task.plan until (within most) f []) (sym below) (none task.plan.behaviour task.plan until (within most));
      counted = omega arith;
      text = appends_none first.held;
      tallied = λ others is. is ∙ ap totals_of (sym (append-nil others));
    }

-- ---- what the end of a task says of each answer

module _ {B S P : Type 0} where
  -- the task's timelines are those of the one alignment
  pub on_lines : (r : Reaction S P) (until : ℕ) (task : Task B S P) → IsAlignment task.plan task.nets task.mode task.lines → (law : Scene (States B S P) (Event P) → Type 0)
      → ((most : ℕ) → task.budget ≤ most → law (run_on r task.plan task.lines task.threshold until (within most))) → OnTimelines r task.plan task.nets task.mode task.threshold until task.budget law
  on_lines r until task own law holds lines most aligned low =
      subst (λ ls. law (run_on r task.plan ls task.threshold until (within most))) (alignment_one task.plan task.nets task.mode task.lines lines own aligned) (holds most low)

  module _ (r : Reaction S P) (names : Names) (until : ℕ) (task : Task B S P) (first now : Output) where
    pub end_told : IsAlignment task.plan task.nets task.mode task.lines → (end : StepEnd) → HasEnded r names until task first now end → IsTold r names until task first now end
    end_told own (Finished crossed last) h = record {
      trace = h.traced;
      few = on_lines r until task own (λ s. AreFew s task.budget) h.few;
      windows = on_lines r until task own (λ s. AreWindows s crossed last) h.windows;
      over = tt;
      budget_ends = tt;
      stopped = tt;
      inside = tt;
      memory_below = tt;
      in_budget = tt;
      part = tt;
      nothing = tt;
      few_timelines = tt;
    }
    end_told own (OverBudget timeline below) h = record {
      over = h.written;
      budget_ends = on_lines r until task own (λ s. EndsBudget s task.budget timeline below) h.ends;
      stopped = h.stopped;
      trace = tt;
      few = tt;
      windows = tt;
      inside = tt;
      memory_below = tt;
      in_budget = tt;
      part = tt;
      nothing = tt;
      few_timelines = tt;
    }
    end_told own (MemoryBelow below) h = record {
      inside = h.inside;
      memory_below = h.written;
      in_budget = on_lines r until task own (λ s. IsInBudget s task.budget below) h.in_budget;
      trace = tt;
      few = tt;
      windows = tt;
      over = tt;
      budget_ends = tt;
      stopped = tt;
      part = tt;
      nothing = tt;
      few_timelines = tt;
    }
    end_told own Memory h = absurd h
    end_told own (TooManyTimelines count) h = absurd h
    end_told own Write h = record {
      part = h;
      trace = tt;
      few = tt;
      windows = tt;
      over = tt;
      budget_ends = tt;
      stopped = tt;
      inside = tt;
      memory_below = tt;
      in_budget = tt;
      nothing = tt;
      few_timelines = tt;
    }

    -- where there was no memory to begin
    pub none_told : Appends [] first.held now.held → IsTold r names until task first now Memory
    none_told none = record {
      nothing = none;
      trace = tt;
      few = tt;
      windows = tt;
      over = tt;
      budget_ends = tt;
      stopped = tt;
      inside = tt;
      memory_below = tt;
      in_budget = tt;
      part = tt;
      few_timelines = tt;
    }

pub none_too_many : (Q : ℕ → Type 0) (end : StepEnd) → IfTooMany end (λ count. ⊥) → IfTooMany end Q
none_too_many Q (Finished crossed last) h = tt
none_too_many Q (OverBudget timeline below) h = tt
none_too_many Q (MemoryBelow below) h = tt
none_too_many Q Memory h = tt
none_too_many Q (TooManyTimelines count) h = absurd h
none_too_many Q Write h = tt

pub if_begun : (Q : Type 0) → Q → (end : StepEnd) → IfBegun end Q
if_begun Q q (Finished crossed last) = q
if_begun Q q (OverBudget timeline below) = q
if_begun Q q (MemoryBelow below) = q
if_begun Q q Memory = tt
if_begun Q q (TooManyTimelines count) = tt
if_begun Q q Write = q

pub caused : (faults faults' : ℕ) (end : StepEnd) → IsCaused faults faults' end → IfWrite end (Rose faults faults')
caused faults faults' (Finished crossed last) h = tt
caused faults faults' (OverBudget timeline below) h = tt
caused faults faults' (MemoryBelow below) h = tt
caused faults faults' Memory h = tt
caused faults faults' (TooManyTimelines count) h = tt
caused faults faults' Write h = h

pub caused_later : (a b faults : ℕ) (end : StepEnd) → a ≤ b → IsCaused b faults end → IsCaused a faults end
caused_later a b faults (Finished crossed last) l h = tt
caused_later a b faults (OverBudget timeline below) l h = tt
caused_later a b faults (MemoryBelow below) l h = tt
caused_later a b faults Memory l h = tt
caused_later a b faults (TooManyTimelines count) l h = tt
caused_later a b faults Write l (inl up) = inl (omega arith)
caused_later a b faults Write l (inr stands) = inr stands

-- why a plan is not aligned, where this is not want of memory
pub too_many_lines : {B S P : Type 0} (plan : Plan B S P) (nets : List ℕ) (mode : Mode) (fault : AlignFault) (count : ℕ) → fault ≡ fault_of.TooManyTimelines count
    → (fault ≡ fault_of.Memory) ⊎ ((lines : List ℕ) × IsAlignment plan nets mode lines × (4096 < timeline_count lines) × (fault ≡ fault_of.TooManyTimelines (timeline_count lines)))
    → (lines : List ℕ) × IsAlignment plan nets mode lines × (4096 < timeline_count lines) × (count ≡ timeline_count lines)
too_many_lines plan nets mode fault count is (inl none) = absurd (cc)
too_many_lines plan nets mode fault count is (inr many) = (let same : count ≡ timeline_count many.0 = (let both : fault_of.TooManyTimelines count ≡ fault_of.TooManyTimelines (timeline_count many.0) = sym is ∙ many.3 in cc) in (many.0, many.1, many.2, same))
