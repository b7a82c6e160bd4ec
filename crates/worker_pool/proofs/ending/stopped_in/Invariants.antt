use Rattle.std.proofs.Common.{ℕ, ◌<◌}
use Rattle.worker_pool.specs.Ends.{WasStoppedIn}
use Rattle.worker_pool.proofs.ending.stopped_in.Given as goal

abbrev pub invariant-loop-place : goal.invariant-loop-place
invariant-loop-place g l = (k : ℕ) → k < l.place → WasStoppedIn g.G.Gate.stops l.lanes k → ⊥
