-- How workers have ended.
use Rattle.std.specs.Prelude.{ℕ, ◌≡◌, ◌<◌, ◌≤◌, true, false, List, Some, slice_get}
use Rattle.core_rules.specs.Cores.{CoreView}
use Rattle.core_rules.specs.Reading.{BudgetEndsIn}
use Rattle.sync_core.specs.Driving.{EndsFirstAt}
use Rattle.worker_pool.specs.declared.lane.Lane.{Lane}
use Rattle.worker_pool.specs.Lanes.{WasStopped}
use Rattle.worker_pool.specs.declared.pool.PoolEnd.{PoolEnd}
use Rattle.worker_pool.specs.declared.pool.PoolEnd.TheVariants.{Finished, Stopped, OverBudget, Memory, Crossed}

-- the worker of lane w was stopped
abbrev pub WasStoppedIn : {G : Type 0} → (G → ℕ) → List (Lane G) → ℕ → Type 0
WasStoppedIn {G} stops lanes w = (lane : Lane G) × (slice_get lanes w ≡ Some lane) × WasStopped stops lane

-- this is the first of those that were stopped
abbrev pub IsFirstStopped : (ℕ → Type 0) → ℕ → Type 0
IsFirstStopped stopped w = stopped w × ((k : ℕ) → k < w → stopped k → ⊥)

-- none was stopped
abbrev pub AreNotStopped : (ℕ → Type 0) → Type 0
AreNotStopped stopped = (k : ℕ) → stopped k → ⊥

-- a stop goes before all else
abbrev pub IsStopFirst : (ℕ → Type 0) → PoolEnd → Type 0
IsStopFirst stopped Finished = AreNotStopped stopped
IsStopFirst stopped (Stopped w) = IsFirstStopped stopped w
IsStopFirst stopped (OverBudget i) = AreNotStopped stopped
IsStopFirst stopped Memory = AreNotStopped stopped
IsStopFirst stopped Crossed = AreNotStopped stopped

module _ {B S P : Type 0} where
  -- the budget ends nowhere
  abbrev pub IsInBudget : CoreView B S P → Type 0
  IsInBudget core = (i : ℕ) → BudgetEndsIn core i → ⊥

  -- the budget ends first at timeline i, and the barrier has not ended
  abbrev pub IsOverAt : CoreView B S P → ℕ → Type 0
  IsOverAt core i = (core.barrier.ended ≡ false) × EndsFirstAt core i

  -- what an end says of the parts that come back; `stopped` is what it says where a gate is closed, and `last` the round in which
  -- the barrier was crossed as often as was asked for
  abbrev pub IsTrueEnd : (ℕ → Type 0) → ℕ → CoreView B S P → PoolEnd → Type 0
  IsTrueEnd stopped last core Finished = core.barrier.ended ≡ true
  IsTrueEnd stopped last core (Stopped w) = stopped w
  IsTrueEnd stopped last core (OverBudget i) = IsOverAt core i
  IsTrueEnd stopped last core Memory = IsInBudget core
  IsTrueEnd stopped last core Crossed = (last ≤ core.barrier.round) × ((core.barrier.ended ≡ false) × IsInBudget core)
