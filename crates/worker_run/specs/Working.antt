-- How a run by workers ends. What is written then is said as of runs by steps.
use Rattle.std.specs.Prelude.{ℕ, ◌≡◌, ◌≤◌, List}
use Rattle.event_order.specs.Machine.{within}
use Rattle.ssf_model.specs.declared.plan.Plan.{Plan}
use Rattle.ssf_model.specs.Reaction.{Reaction}
use Rattle.alignment.specs.declared.labels.Mode.{Mode}
use Rattle.alignment.specs.Alignment.{IsAlignment, line_of}
use Rattle.core_rules.specs.Cores.{CoreView, IsSoundFor}
use Rattle.core_rules.specs.Reading.{safe_bound_in}
use Rattle.core_traces.specs.Kept.{run_on}
use Rattle.step_run.specs.declared.running.StepEnd.{StepEnd}
use Rattle.step_run.specs.declared.running.StepEnd.TheVariants.{Finished, OverBudget, MemoryBelow, Memory, TooManyTimelines, Write}
use Rattle.step_run.specs.Endings.{IfBegun as IfStepsBegun}
use Rattle.worker_run.specs.declared.running.WorkEnd.{WorkEnd}
use Rattle.worker_run.specs.declared.running.WorkEnd.TheVariants.{Ended, Stopped}

-- what stands where the run ended so

abbrev pub IfEnded : WorkEnd → (StepEnd → Type 0) → Type 0
IfEnded (Ended end) P = P end
IfEnded (Stopped worker below) P = Unit {0}

abbrev pub IfStopped : WorkEnd → (ℕ → ℕ → Type 0) → Type 0
IfStopped (Ended end) P = Unit {0}
IfStopped (Stopped worker below) P = P worker below

-- the run was begun
abbrev pub IfBegun : WorkEnd → Type 0 → Type 0
IfBegun (Ended end) P = IfStepsBegun end P
IfBegun (Stopped worker below) P = P

-- no gate has stopped a worker: a stop goes before such an end. A fault or want of memory in writing goes before a stop, so `Write` and
-- `MemoryBelow` tell nothing of gates
abbrev pub IfUnstopped : WorkEnd → Type 0 → Type 0
IfUnstopped (Ended (Finished crossed last)) P = P
IfUnstopped (Ended (OverBudget timeline below)) P = P
IfUnstopped (Ended (MemoryBelow below)) P = Unit {0}
IfUnstopped (Ended Memory) P = P
IfUnstopped (Ended (TooManyTimelines count)) P = P
IfUnstopped (Ended Write) P = Unit {0}
IfUnstopped (Stopped worker below) P = Unit {0}

-- this is the safe bound of some parts that are sound for the run on the timelines and have this budget
pub record IsSafeBound {B S P : Type 0} (r : Reaction S P) (plan : Plan B S P) (nets : List ℕ) (mode : Mode) (threshold until budget below : ℕ) : Type 0 where
  pub core : CoreView B S P
  pub bound : safe_bound_in core ≡ below
  pub has_budget : core.budget ≡ budget
  pub sound : (lines : List ℕ) (most : ℕ) → IsAlignment plan nets mode lines → budget ≤ most
      → (at : ℕ → ℕ) × (before : ℕ) × IsSoundFor plan (line_of lines) (run_on r plan lines threshold until (within most)) core at before
