-- How a run by steps of timelines ends, and what was written then. `budget` is the most events that a timeline executes, and
-- the run is that of the plan under each cut that drops no round up to it.
use Rattle.std.specs.Prelude.{ℕ, ◌≡◌, ◌+◌, ◌≤◌, ◌⊎◌, List, length, Option}
use Rattle.event_order.specs.Machine.{within}
use Rattle.sim_base.specs.Outside.{Appends, AppendsPrefix}
use Rattle.ssf_model.specs.declared.event.Event.{Event}
use Rattle.ssf_model.specs.declared.event.Entry.{Entry}
use Rattle.ssf_model.specs.declared.event.Names.{Names}
use Rattle.ssf_model.specs.declared.plan.Plan.{Plan}
use Rattle.ssf_model.specs.Reaction.{Reaction}
use Rattle.ssf_model.specs.Run.{States}
use Rattle.ssf_model.specs.Scene.{Scene}
use Rattle.ssf_model.specs.Truth.{AreFew}
use Rattle.alignment.specs.declared.labels.Mode.{Mode}
use Rattle.alignment.specs.Alignment.{IsAlignment, line_of}
use Rattle.trace_writer.specs.Trace.{entries_text, trace_text}
use Rattle.trace_writer.specs.Report.{Totals}
use Rattle.core_traces.specs.Records.{AreEntriesBelow, AreAllEntries}
use Rattle.core_rules.specs.Cores.{CoreView, IsSoundFor}
use Rattle.sync_core.specs.Driving.{EndsFirstAt}
use Rattle.core_traces.specs.Kept.{run_on}
use Rattle.core_traces.specs.Ends.{AreWindows, IsInBudget}
use Rattle.step_run.specs.declared.running.StepEnd.{StepEnd}
use Rattle.step_run.specs.declared.running.StepEnd.TheVariants.{Finished, OverBudget, MemoryBelow, Memory, TooManyTimelines, Write}
use Rattle.step_run.specs.Telling.{IsTallied}

-- ---- what stands where the run ended so

abbrev pub IfFinished : StepEnd → (ℕ → ℕ → Type 0) → Type 0
IfFinished (Finished crossed last) P = P crossed last
IfFinished (OverBudget timeline below) P = Unit {0}
IfFinished (MemoryBelow below) P = Unit {0}
IfFinished Memory P = Unit {0}
IfFinished (TooManyTimelines count) P = Unit {0}
IfFinished Write P = Unit {0}

abbrev pub IfOverBudget : StepEnd → (ℕ → ℕ → Type 0) → Type 0
IfOverBudget (Finished crossed last) P = Unit {0}
IfOverBudget (OverBudget timeline below) P = P timeline below
IfOverBudget (MemoryBelow below) P = Unit {0}
IfOverBudget Memory P = Unit {0}
IfOverBudget (TooManyTimelines count) P = Unit {0}
IfOverBudget Write P = Unit {0}

abbrev pub IfMemoryBelow : StepEnd → (ℕ → Type 0) → Type 0
IfMemoryBelow (Finished crossed last) P = Unit {0}
IfMemoryBelow (OverBudget timeline below) P = Unit {0}
IfMemoryBelow (MemoryBelow below) P = P below
IfMemoryBelow Memory P = Unit {0}
IfMemoryBelow (TooManyTimelines count) P = Unit {0}
IfMemoryBelow Write P = Unit {0}

abbrev pub IfTooMany : StepEnd → (ℕ → Type 0) → Type 0
IfTooMany (Finished crossed last) P = Unit {0}
IfTooMany (OverBudget timeline below) P = Unit {0}
IfTooMany (MemoryBelow below) P = Unit {0}
IfTooMany Memory P = Unit {0}
IfTooMany (TooManyTimelines count) P = P count
IfTooMany Write P = Unit {0}

abbrev pub IfWrite : StepEnd → Type 0 → Type 0
IfWrite (Finished crossed last) P = Unit {0}
IfWrite (OverBudget timeline below) P = Unit {0}
IfWrite (MemoryBelow below) P = Unit {0}
IfWrite Memory P = Unit {0}
IfWrite (TooManyTimelines count) P = Unit {0}
IfWrite Write P = P

-- nothing was begun: there was no memory for the parts of the run and for writing, or there are too many timelines
abbrev pub IfNotBegun : StepEnd → Type 0 → Type 0
IfNotBegun (Finished crossed last) P = Unit {0}
IfNotBegun (OverBudget timeline below) P = Unit {0}
IfNotBegun (MemoryBelow below) P = Unit {0}
IfNotBegun Memory P = P
IfNotBegun (TooManyTimelines count) P = P
IfNotBegun Write P = Unit {0}

-- the run was begun
abbrev pub IfBegun : StepEnd → Type 0 → Type 0
IfBegun (Finished crossed last) P = P
IfBegun (OverBudget timeline below) P = P
IfBegun (MemoryBelow below) P = P
IfBegun Memory P = Unit {0}
IfBegun (TooManyTimelines count) P = Unit {0}
IfBegun Write P = P

module _ {B S P : Type 0} where
  -- ---- records

  -- the entries of the run with times below f, under each such cut, and all entries
  abbrev pub AreRecordsBelow : Reaction S P → Plan B S P → ℕ → ℕ → ℕ → List Entry → Type 0
  AreRecordsBelow r plan until budget f entries = (most : ℕ) → budget ≤ most → AreEntriesBelow r plan until (within most) f entries

  abbrev pub AreAllRecords : Reaction S P → Plan B S P → ℕ → ℕ → List Entry → Type 0
  AreAllRecords r plan until budget entries = (most : ℕ) → budget ≤ most → AreAllEntries r plan until (within most) entries

  -- ---- the run on timelines

  -- what holds of the run on the timelines of each alignment by the mode (there is one), under each such cut
  abbrev pub OnTimelines : Reaction S P → Plan B S P → List ℕ → Mode → ℕ → ℕ → ℕ → (Scene (States B S P) (Event P) → Type 0) → Type 0
  OnTimelines r plan nets mode threshold until budget law =
      (lines : List ℕ) (most : ℕ) → IsAlignment plan nets mode lines → budget ≤ most → law (run_on r plan lines threshold until (within most))

  -- it stopped with parts that are sound for this run and have this budget, in which i is the least timeline where the budget ends
  pub record HasStoppedAt (r : Reaction S P) (plan : Plan B S P) (nets : List ℕ) (mode : Mode) (threshold until budget i : ℕ) : Type 0 where
    pub core : CoreView B S P
    pub first : EndsFirstAt core i
    pub has_budget : core.budget ≡ budget
    pub sound : (lines : List ℕ) (most : ℕ) → IsAlignment plan nets mode lines → budget ≤ most
        → (at : ℕ → ℕ) × (before : ℕ) × IsSoundFor plan (line_of lines) (run_on r plan lines threshold until (within most)) core at before

  -- ---- what was written

  -- the whole trace was written, and the tally counts its entries
  pub record IsTraced (r : Reaction S P) (plan : Plan B S P) (names : Names) (until budget : ℕ) (held held' : Option (List ℕ)) (tally tally' : Totals) : Type 0 where
    pub entries : List Entry
    pub all : AreAllRecords r plan until budget entries
    pub text : Appends (trace_text names entries until (plan.before + length entries)) held held'
    pub tallied : IsTallied tally tally' entries

  -- exactly the records with times below `below` were written
  pub record IsWrittenBelow (r : Reaction S P) (plan : Plan B S P) (names : Names) (until budget below : ℕ) (held held' : Option (List ℕ)) : Type 0 where
    pub entries : List Entry
    pub are : AreRecordsBelow r plan until budget below entries
    pub text : Appends (entries_text names entries) held held'

  -- a part was written, from the beginning: of the records below some time, at most a tick after the end, before which no timeline has
  -- more events than the budget, or of the whole trace, where none has more
  pub record IsPieceOfRecords (r : Reaction S P) (plan : Plan B S P) (names : Names) (nets : List ℕ) (mode : Mode) (threshold until budget : ℕ) (held held' : Option (List ℕ)) : Type 0 where
    pub below : ℕ
    pub inside : below ≤ until + 1
    pub in_budget : OnTimelines r plan nets mode threshold until budget (λ s. IsInBudget s budget below)
    pub entries : List Entry
    pub are : AreRecordsBelow r plan until budget below entries
    pub text : AppendsPrefix (entries_text names entries) held held'

  pub record IsPieceOfTrace (r : Reaction S P) (plan : Plan B S P) (names : Names) (nets : List ℕ) (mode : Mode) (threshold until budget : ℕ) (held held' : Option (List ℕ)) : Type 0 where
    pub few : OnTimelines r plan nets mode threshold until budget (λ s. AreFew s budget)
    pub crossed : ℕ
    pub last : ℕ
    pub windows : OnTimelines r plan nets mode threshold until budget (λ s. AreWindows s crossed last)
    pub entries : List Entry
    pub all : AreAllRecords r plan until budget entries
    pub text : AppendsPrefix (trace_text names entries until (plan.before + length entries)) held held'

  abbrev pub IsPartWritten : Reaction S P → Plan B S P → Names → List ℕ → Mode → ℕ → ℕ → ℕ → Option (List ℕ) → Option (List ℕ) → Type 0
  IsPartWritten r plan names nets mode threshold until budget held held' =
      IsPieceOfRecords r plan names nets mode threshold until budget held held' ⊎ IsPieceOfTrace r plan names nets mode threshold until budget held held'
