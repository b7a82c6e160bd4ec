-- What contracts say of lanes.
use Rattle.std.specs.Prelude.{ℕ, ◌≡◌, ◌<◌, ◌≤◌, ◌⊎◌, Some, List, slice_get}
use Rattle.sim_base.specs.Outside.{Rose}
use Rattle.event_order.specs.Pending.{Among}
use Rattle.atomic_table.specs.Seated.{TableId}
use Rattle.turn_table.specs.declared.pass.Pass.{Pass}
use Rattle.turn_table.specs.declared.view.Shape.{Shape}
use Rattle.turn_table.specs.Passes.{IsSeated, HoldsNone}
use Rattle.worker_turns.specs.declared.worker.Worker.{Worker}
use Rattle.worker_turns.specs.declared.worker.Turned.TheVariants.{Nothing, Stopped}
use Rattle.worker_turns.specs.Passes.{pass_of}
use Rattle.worker_pool.specs.declared.lane.Lane.{Lane}

-- the pass is one of this table, of this shape, and holds no place
abbrev pub IsFreeIn : TableId → Shape → Pass → Type 0
IsFreeIn z shape pass = IsSeated z shape pass × HoldsNone pass

-- the lane's gate
abbrev pub gate_of : {G : Type 0} → Lane G → G
gate_of l = l.gate

module _ {G : Type 0} (stops : G → ℕ) where
  -- the gate of lane w has stopped a worker
  pub record HasStopped (w : ℕ) (old new : List (Lane G)) : Type 0 where
    pub before : Lane G
    pub was : slice_get old w ≡ Some before
    pub after : Lane G
    pub is : slice_get new w ≡ Some after
    pub rose : Rose (stops (gate_of before)) (stops (gate_of after))

  -- no gate's count of stops has fallen
  abbrev pub HaveNotFallen : List (Lane G) → List (Lane G) → Type 0
  HaveNotFallen old new = (w : ℕ) (before after : Lane G) → slice_get old w ≡ Some before → slice_get new w ≡ Some after → stops (gate_of before) ≤ stops (gate_of after)

  -- no count of the gates of the first n lanes has changed
  abbrev pub HaveStood : ℕ → List (Lane G) → List (Lane G) → Type 0
  HaveStood n old new = (w : ℕ) (before after : Lane G) → w < n → slice_get old w ≡ Some before → slice_get new w ≡ Some after → stops (gate_of after) ≡ stops (gate_of before)

  -- ---- one lane

  -- the worker has done nothing yet, and the gate's count is kept
  pub record IsIdle (lane : Lane G) : Type 0 where
    pub last : lane.last ≡ Nothing
    pub counted : lane.stops_before ≡ stops (gate_of lane)

  -- the gate is the same
  pub record IsCleared (before after : Lane G) : Type 0 where
    pub gate : gate_of after ≡ gate_of before
    pub idle : IsIdle after

  -- the gate's count of stops has not fallen, and rose where the worker's last answer is that it was stopped; what it was is kept
  pub record IsCarried (before after : Lane G) : Type 0 where
    pub up : stops (gate_of before) ≤ stops (gate_of after)
    pub stopped : after.last ≡ Stopped → Rose (stops (gate_of before)) (stops (gate_of after))
    pub counted : after.stops_before ≡ stops (gate_of before)

  -- the worker was stopped: its last answer says so, or its gate's count is above the one that was kept
  abbrev pub WasStopped : Lane G → Type 0
  WasStopped lane = (lane.last ≡ Stopped) ⊎ (lane.stops_before < stops (gate_of lane))

module _ {G : Type 0} where
  -- the law holds of each lane
  abbrev pub EachIs : (Lane G → Type 0) → List (Lane G) → Type 0
  EachIs law lanes = (w : ℕ) (lane : Lane G) → slice_get lanes w ≡ Some lane → law lane

  -- the law holds of each lane before and after
  abbrev pub EachBecame : (Lane G → Lane G → Type 0) → List (Lane G) → List (Lane G) → Type 0
  EachBecame law old new = (w : ℕ) (before after : Lane G) → slice_get old w ≡ Some before → slice_get new w ≡ Some after → law before after

  -- the lane has a worker, and the law holds of the worker's pass
  pub record HasPass (law : Pass → Type 0) (lane : Lane G) : Type 0 where
    pub worker : Worker
    pub here : lane.worker ≡ Some worker
    pub met : law (pass_of worker)

  -- but for the worker nothing has changed
  pub record IsKept (before after : Lane G) : Type 0 where
    pub gate : gate_of after ≡ gate_of before
    pub last : after.last ≡ before.last
    pub counted : after.stops_before ≡ before.stops_before

  -- and the lane has one of these passes
  pub record IsLent (passes : List Pass) (before after : Lane G) : Type 0 where
    pub kept : IsKept before after
    pub pass : HasPass (λ p. Among p passes) after
