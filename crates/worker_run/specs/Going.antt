-- A run by workers while it goes on. No public clause cites this file.
use Rattle.std.specs.Prelude.{ℕ, ◌≡◌, ◌+◌, ◌≤◌, min, Bool, true, false, List, length}
use Rattle.event_order.specs.Machine.{within}
use Rattle.sim_base.specs.Outside.{Appends}
use Rattle.ssf_model.specs.declared.event.Entry.{Entry}
use Rattle.ssf_model.specs.declared.event.Names.{Names}
use Rattle.ssf_model.specs.Reaction.{Reaction, Validity}
use Rattle.alignment.specs.Alignment.{line_of}
use Rattle.trace_writer.specs.Trace.{entries_text}
use Rattle.core_rules.specs.Cores.{CoreView}
use Rattle.core_rules.specs.Stepping.{without_below}
use Rattle.core_rules.specs.Reading.{safe_bound_in}
use Rattle.core_traces.specs.Kept.{run_on, AreSoundFrom}
use Rattle.core_traces.specs.Ends.{IsInBudget}
use Rattle.step_run.specs.declared.running.StepEnd.TheVariants.{OverBudget, MemoryBelow}
use Rattle.step_run.specs.Telling.{MostCounted, Told, IsTallied}
use Rattle.step_run.specs.Endings.{AreRecordsBelow, OnTimelines}
use Rattle.step_run.specs.Going.{Task, Output, IsGiven, IsWhole, IsHalted, HasEnded, IsTold}
use Rattle.step_run.specs.Going.{IsCaused as IsStepsCaused}
use Rattle.worker_pool.specs.declared.pool.PoolEnd.{PoolEnd}
use Rattle.worker_pool.specs.declared.pool.PoolEnd.TheVariants as pool
use Rattle.worker_run.specs.declared.running.WorkEnd.{WorkEnd}
use Rattle.worker_run.specs.declared.running.WorkEnd.TheVariants.{Ended, Stopped}
use Rattle.worker_run.specs.declared.running.Advanced.{Advanced}
use Rattle.worker_run.specs.declared.running.Advanced.TheVariants.{Further, Whole, Over}
use Rattle.worker_run.specs.Working.{IfEnded, IfStopped, IfUnstopped, IsSafeBound}

module _ {B S P : Type 0} where
  -- the parts are sound and keep all entries from a time on
  abbrev pub KeepsFrom : Reaction S P → ℕ → Task B S P → CoreView B S P → ℕ → Type 0
  KeepsFrom r until task core from = (most : ℕ) → task.budget ≤ most
      → AreSoundFrom task.plan (line_of task.lines) (run_on r task.plan task.lines task.threshold until (within most)) task.budget core from

  -- and the records before this time were written behind what was held, counted and added to the tally
  pub record IsUnderWay (r : Reaction S P) (names : Names) (until : ℕ) (task : Task B S P) (core : CoreView B S P) (told : Told) (first now : Output) : Type 0 where
    pub entries : List Entry
    pub keeps : KeepsFrom r until task core told.below
    pub before : AreRecordsBelow r task.plan until task.budget told.below entries
    pub counted : told.count ≡ min (length entries) MostCounted
    pub text : Appends (entries_text names entries) first.held now.held
    pub tallied : IsTallied first.tally now.tally entries

  -- some such task is under way
  pub record GoesOn (valid : B → Validity S) (carried : B → P → Type 0) (reaction : B → Reaction S P) (names : Names) (until : ℕ) (core : CoreView B S P) : Type 0 where
    pub task : Task B S P
    pub given : IsGiven (valid task.plan.behaviour) (carried task.plan.behaviour) names until task
    pub from : ℕ
    pub keeps : KeepsFrom (reaction task.plan.behaviour) until task core from

  -- a gate has stopped the task
  pub record IsStopped (r : Reaction S P) (names : Names) (until : ℕ) (task : Task B S P) (below : ℕ) (first now : Output) : Type 0 where
    pub halted : IsHalted r names until task below first now
    pub safe : IsSafeBound r task.plan task.nets task.mode task.threshold until task.budget below

  -- how the task ended
  abbrev pub HasWorked : Reaction S P → Names → ℕ → Task B S P → Output → Output → WorkEnd → Type 0
  HasWorked r names until task first now (Ended end) = HasEnded r names until task first now end
  HasWorked r names until task first now (Stopped worker below) = IsStopped r names until task below first now

  -- what the end of a task says of each answer
  pub record IsWorkTold (r : Reaction S P) (names : Names) (until : ℕ) (task : Task B S P) (first now : Output) (end : WorkEnd) : Type 0 where
    pub told : IfEnded end (λ steps. IsTold r names until task first now steps)
    pub stopped : IfStopped end (λ worker below. IsStopped r names until task below first now)
    pub in_budget : IfStopped end (λ worker below. OnTimelines r task.plan task.nets task.mode task.threshold until task.budget (λ s. IsInBudget s task.budget below))

  -- what became of it in one turn: it goes on; or all was executed; or it ended
  abbrev pub HasAdvanced : Reaction S P → Names → ℕ → Task B S P → CoreView B S P → Told → Output → Output → Advanced → Type 0
  HasAdvanced r names until task core told first now Further = IsUnderWay r names until task core told first now
  HasAdvanced r names until task core told first now Whole = IsWhole r names until task told core.barrier.round core.barrier.window first now
  HasAdvanced r names until task core told first now (Over end) = HasWorked r names until task first now end

  -- the time below which the next piece is written, and what it leaves of the parts: the last one goes up to the end, and gives
  -- up nothing
  abbrev pub piece_bound : Bool → ℕ → CoreView B S P → ℕ
  piece_bound true until core = until + 1
  piece_bound false until core = safe_bound_in core

  abbrev pub piece_left : Bool → CoreView B S P → CoreView B S P
  piece_left true core = core
  piece_left false core = without_below (safe_bound_in core) core

-- workers have left a barrier that has ended
abbrev pub has_finished : PoolEnd → Bool
has_finished pool.Finished = true
has_finished (pool.Stopped worker) = false
has_finished (pool.OverBudget timeline) = false
has_finished pool.Memory = false
has_finished pool.Crossed = false

-- what comes of how workers ended, where the records below a time were written
abbrev pub outcome : PoolEnd → ℕ → Advanced
outcome pool.Finished below = Whole
outcome (pool.Stopped worker) below = Over (Stopped worker below)
outcome (pool.OverBudget timeline) below = Over (Ended (OverBudget timeline below))
outcome pool.Memory below = Over (Ended (MemoryBelow below))
outcome pool.Crossed below = Further

-- where it goes on, and where it ended
abbrev pub IfFurther : Advanced → Type 0 → Type 0
IfFurther Further P = P
IfFurther Whole P = Unit {0}
IfFurther (Over end) P = Unit {0}

abbrev pub IfOver : Advanced → (WorkEnd → Type 0) → Type 0
IfOver Further P = Unit {0}
IfOver Whole P = Unit {0}
IfOver (Over end) P = P end

-- where no gate has stopped a worker: it goes on, or all was executed, or a stop goes before this end
abbrev pub IfOn : Advanced → Type 0 → Type 0
IfOn Further P = P
IfOn Whole P = P
IfOn (Over end) P = IfUnstopped end P

-- the cause of an end
abbrev pub IsCaused : ℕ → ℕ → WorkEnd → Type 0
IsCaused faults faults' (Ended end) = IsStepsCaused faults faults' end
IsCaused faults faults' (Stopped worker below) = Unit {0}
