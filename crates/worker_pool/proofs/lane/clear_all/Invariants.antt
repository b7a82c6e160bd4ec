use Rattle.worker_pool.specs.Lanes.{IsCleared}
use Rattle.worker_pool.proofs.Steps.{IsUpTo}
use Rattle.worker_pool.proofs.lane.clear_all.Given as goal

abbrev pub invariant-loop-place : goal.invariant-loop-place
invariant-loop-place g l = IsUpTo (IsCleared g.G.Gate.stops) l.place l.initial.lanes l.lanes
