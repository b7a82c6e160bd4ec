-- A run by steps while it goes on, and what of it goes for other runs on timelines. Of public clauses only that of `write_end`
-- cites this file.
use Rattle.std.specs.Prelude.{ℕ, ◌≡◌, ◌+◌, ◌≤◌, min, List, [], length, Option, Some, Result, Ok, Err}
use Rattle.event_order.specs.Machine.{within}
use Rattle.sim_base.specs.Outside.{Appends, Rose}
use Rattle.ssf_model.specs.declared.event.Entry.{Entry}
use Rattle.ssf_model.specs.declared.event.Names.{Names}
use Rattle.ssf_model.specs.declared.plan.Plan.{Plan}
use Rattle.ssf_model.specs.Reaction.{Reaction, Validity, LatestTime}
use Rattle.ssf_model.specs.Run.{Fits}
use Rattle.ssf_model.specs.Truth.{AreFew}
use Rattle.run_health.specs.Healthy.{MostEvents}
use Rattle.sync_rules.specs.Shared.{IsShared}
use Rattle.alignment.specs.declared.labels.Mode.{Mode}
use Rattle.alignment.specs.Alignment.{IsAlignment, line_of, timeline_count}
use Rattle.trace_writer.specs.Trace.{entries_text}
use Rattle.trace_writer.specs.Report.{Totals}
use Rattle.sync_steps.specs.declared.steps.Step.{Step}
use Rattle.core_rules.specs.Cores.{CoreView}
use Rattle.core_rules.specs.Stepping.{without_below}
use Rattle.core_traces.specs.Kept.{run_on, IsCoreFrom}
use Rattle.core_traces.specs.Ends.{AreWindows, IsInBudget, EndsBudget}
use Rattle.step_run.specs.declared.running.StepEnd.{StepEnd}
use Rattle.step_run.specs.declared.running.StepEnd.TheVariants.{Finished, OverBudget, MemoryBelow, Memory, TooManyTimelines, Write}
use Rattle.step_run.specs.declared.running.Advanced.{Advanced}
use Rattle.step_run.specs.declared.running.Advanced.TheVariants.{Further, Whole, Ended}
use Rattle.sim_base.specs.declared.outside.Memory.{Memory as NoMemory}
use Rattle.sync_core.specs.declared.driving.DriveEnd.{DriveEnd}
use Rattle.sync_core.specs.declared.driving.DriveEnd.TheVariants as drive
use Rattle.sync_core.specs.declared.driving.Driven.{Driven}
use Rattle.sync_core.specs.Driving.{AreTries}
use Rattle.step_run.specs.Telling.{MostCounted, Told, IsTallied}
use Rattle.step_run.specs.Endings.{IfFinished, IfOverBudget, IfMemoryBelow, IfTooMany, IfWrite, IfNotBegun, AreRecordsBelow, AreAllRecords, IsTraced, IsWrittenBelow, IsPartWritten, OnTimelines, HasStoppedAt}

-- what is run: a plan on the timelines `lines`, an alignment of it by this mode and these Nets, with a threshold and a budget
pub record Task (B S P : Type 0) : Type 0 where
  pub plan : Plan B S P
  pub nets : List ℕ
  pub mode : Mode
  pub lines : List ℕ
  pub threshold : ℕ
  pub budget : ℕ

-- the bytes that a sink holds, where they are told, and a tally
pub record Output : Type 0 where
  pub held : Option (List ℕ)
  pub tally : Totals

abbrev pub output : Option (List ℕ) → Totals → Output
output held tally = record { held = held; tally = tally }

module _ {B S P : Type 0} where
  -- it is in range, and each entity has a name
  pub record IsGiven (valid : Validity S) (carried : P → Type 0) (names : Names) (until : ℕ) (task : Task B S P) : Type 0 where
    pub fits : Fits valid carried task.plan
    pub aligned : IsAlignment task.plan task.nets task.mode task.lines
    pub few : timeline_count task.lines ≤ 4096
    pub in_time : until ≤ LatestTime
    pub most : task.budget ≤ MostEvents
    pub named : length names.names ≡ length task.plan.entities

  -- the parts keep all entries from a time on
  abbrev pub KeepsFrom : Reaction S P → ℕ → Task B S P → CoreView B S P → ℕ → Type 0
  KeepsFrom r until task core from = (most : ℕ) → task.budget ≤ most
      → IsCoreFrom task.plan (line_of task.lines) (run_on r task.plan task.lines task.threshold until (within most)) task.budget core from

  -- and the records before this time were written behind what was held, counted and added to the tally
  pub record IsUnderWay (r : Reaction S P) (names : Names) (until : ℕ) (task : Task B S P) (core : CoreView B S P) (told : Told) (first now : Output) : Type 0 where
    pub entries : List Entry
    pub keeps : KeepsFrom r until task core told.below
    pub before : AreRecordsBelow r task.plan until task.budget told.below entries
    pub counted : told.count ≡ min (length entries) MostCounted
    pub text : Appends (entries_text names entries) first.held now.held
    pub tallied : IsTallied first.tally now.tally entries

  -- some such task is under way
  pub record GoesOn (valid : B → Validity S) (carried : B → P → Type 0) (reaction : B → Reaction S P) (names : Names) (until : ℕ) (core : CoreView B S P) : Type 0 where
    pub task : Task B S P
    pub given : IsGiven (valid task.plan.behaviour) (carried task.plan.behaviour) names until task
    pub from : ℕ
    pub keeps : KeepsFrom (reaction task.plan.behaviour) until task core from

  -- all was executed, and its records were written, which are those before a time
  pub record IsWhole (r : Reaction S P) (names : Names) (until : ℕ) (task : Task B S P) (told : Told) (crossed last : ℕ) (first now : Output) : Type 0 where
    pub entries : List Entry
    pub inside : told.below ≤ until + 1
    pub before : AreRecordsBelow r task.plan until task.budget told.below entries
    pub all : AreAllRecords r task.plan until task.budget entries
    pub counted : told.count ≡ min (length entries) MostCounted
    pub text : Appends (entries_text names entries) first.held now.held
    pub tallied : IsTallied first.tally now.tally entries
    pub shared : (most : ℕ) → task.budget ≤ most → IsShared (run_on r task.plan task.lines task.threshold until (within most))
    pub few : (most : ℕ) → task.budget ≤ most → AreFew (run_on r task.plan task.lines task.threshold until (within most)) task.budget
    pub windows : (most : ℕ) → task.budget ≤ most → AreWindows (run_on r task.plan task.lines task.threshold until (within most)) crossed last

  -- how the task ended
  pub record IsFinished (r : Reaction S P) (names : Names) (until : ℕ) (task : Task B S P) (crossed last : ℕ) (first now : Output) : Type 0 where
    pub traced : IsTraced r task.plan names until task.budget first.held now.held first.tally now.tally
    pub few : (most : ℕ) → task.budget ≤ most → AreFew (run_on r task.plan task.lines task.threshold until (within most)) task.budget
    pub windows : (most : ℕ) → task.budget ≤ most → AreWindows (run_on r task.plan task.lines task.threshold until (within most)) crossed last

  pub record IsOver (r : Reaction S P) (names : Names) (until : ℕ) (task : Task B S P) (timeline below : ℕ) (first now : Output) : Type 0 where
    pub written : IsWrittenBelow r task.plan names until task.budget below first.held now.held
    pub ends : (most : ℕ) → task.budget ≤ most → EndsBudget (run_on r task.plan task.lines task.threshold until (within most)) task.budget timeline below
    pub stopped : HasStoppedAt r task.plan task.nets task.mode task.threshold until task.budget timeline

  pub record IsHalted (r : Reaction S P) (names : Names) (until : ℕ) (task : Task B S P) (below : ℕ) (first now : Output) : Type 0 where
    pub inside : below ≤ until + 1
    pub written : IsWrittenBelow r task.plan names until task.budget below first.held now.held
    pub in_budget : (most : ℕ) → task.budget ≤ most → IsInBudget (run_on r task.plan task.lines task.threshold until (within most)) task.budget below

  abbrev pub HasEnded : Reaction S P → Names → ℕ → Task B S P → Output → Output → StepEnd → Type 0
  HasEnded r names until task first now (Finished crossed last) = IsFinished r names until task crossed last first now
  HasEnded r names until task first now (OverBudget timeline below) = IsOver r names until task timeline below first now
  HasEnded r names until task first now (MemoryBelow below) = IsHalted r names until task below first now
  HasEnded r names until task first now Memory = ⊥
  HasEnded r names until task first now (TooManyTimelines count) = ⊥
  HasEnded r names until task first now Write = IsPartWritten r task.plan names task.nets task.mode task.threshold until task.budget first.held now.held

  -- what the end of a task says of each answer: what was written, and what the run on the timelines has
  pub record IsTold (r : Reaction S P) (names : Names) (until : ℕ) (task : Task B S P) (first now : Output) (end : StepEnd) : Type 0 where
    pub trace : IfFinished end (λ crossed last. IsTraced r task.plan names until task.budget first.held now.held first.tally now.tally)
    pub few : IfFinished end (λ crossed last. OnTimelines r task.plan task.nets task.mode task.threshold until task.budget (λ s. AreFew s task.budget))
    pub windows : IfFinished end (λ crossed last. OnTimelines r task.plan task.nets task.mode task.threshold until task.budget (λ s. AreWindows s crossed last))
    pub over : IfOverBudget end (λ timeline below. IsWrittenBelow r task.plan names until task.budget below first.held now.held)
    pub budget_ends : IfOverBudget end (λ timeline below. OnTimelines r task.plan task.nets task.mode task.threshold until task.budget (λ s. EndsBudget s task.budget timeline below))
    pub stopped : IfOverBudget end (λ timeline below. HasStoppedAt r task.plan task.nets task.mode task.threshold until task.budget timeline)
    pub inside : IfMemoryBelow end (λ below. below ≤ until + 1)
    pub memory_below : IfMemoryBelow end (λ below. IsWrittenBelow r task.plan names until task.budget below first.held now.held)
    pub in_budget : IfMemoryBelow end (λ below. OnTimelines r task.plan task.nets task.mode task.threshold until task.budget (λ s. IsInBudget s task.budget below))
    pub part : IfWrite end (IsPartWritten r task.plan names task.nets task.mode task.threshold until task.budget first.held now.held)
    pub nothing : IfNotBegun end (Appends [] first.held now.held)
    pub few_timelines : IfTooMany end (λ count. ⊥)

  -- steps were made up to a round: those of the schedule were tried in order, `used` of them, and then the first enabled ones were made; then
  -- entries below a time were given up
  pub record IsDrivenOn (r : Reaction S P) (last : ℕ) (schedule : List Step) (used : ℕ) (core after : CoreView B S P) (below : ℕ) : Type 0 where
    pub tries : ℕ
    pub between : CoreView B S P
    pub used_is : used ≡ min tries (length schedule)
    pub made : AreTries r (Some last) tries schedule core between
    pub given_up : after ≡ without_below below between

  -- what became of it in one turn: `used` steps of a schedule were tried, and it goes on; or all was executed; or it ended
  abbrev pub HasAdvanced : Reaction S P → Names → ℕ → Task B S P → CoreView B S P → Told → Output → Output → Advanced → Type 0
  HasAdvanced r names until task core told first now (Further used) = IsUnderWay r names until task core told first now
  HasAdvanced r names until task core told first now Whole = IsWhole r names until task told core.barrier.round core.barrier.window first now
  HasAdvanced r names until task core told first now (Ended end) = HasEnded r names until task first now end

-- what comes of how some steps ended, where the records below a time were written
abbrev pub outcome_at : DriveEnd → ℕ → ℕ → Advanced
outcome_at drive.Finished used below = Whole
outcome_at (drive.OverBudget timeline) used below = Ended (OverBudget timeline below)
outcome_at drive.Crossed used below = Further used

abbrev pub outcome : Result Driven NoMemory → ℕ → Advanced
outcome (Ok driven) below = outcome_at driven.end driven.used below
outcome (Err memory) below = Ended (MemoryBelow below)

-- where it goes on
abbrev pub IfFurther : Advanced → (ℕ → Type 0) → Type 0
IfFurther (Further used) P = P used
IfFurther Whole P = Unit {0}
IfFurther (Ended end) P = Unit {0}

-- the cause of an end
abbrev pub IsCaused : ℕ → ℕ → StepEnd → Type 0
IsCaused faults faults' (Finished crossed last) = Unit {0}
IsCaused faults faults' (OverBudget timeline below) = Unit {0}
IsCaused faults faults' (MemoryBelow below) = Unit {0}
IsCaused faults faults' Memory = Unit {0}
IsCaused faults faults' (TooManyTimelines count) = Unit {0}
IsCaused faults faults' Write = Rose faults faults'

abbrev pub HasCause : ℕ → ℕ → Advanced → Type 0
HasCause faults faults' (Further used) = Unit {0}
HasCause faults faults' Whole = Unit {0}
HasCause faults faults' (Ended end) = IsCaused faults faults' end
