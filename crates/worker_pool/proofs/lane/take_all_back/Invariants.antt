use Rattle.std.proofs.Common.{◌≡◌, ℕ, vec_len, vec_capacity, Some, slice_get}
use Rattle.event_order.specs.Pending.{Among}
use Rattle.turn_table.specs.declared.pass.Pass.{Pass}
use Rattle.worker_pool.specs.Lanes.{IsKept, HasPass}
use Rattle.worker_pool.proofs.Steps.{IsUpTo}
use Rattle.worker_pool.proofs.lane.take_all_back.Given as goal

abbrev pub invariant-loop-place : goal.invariant-loop-place
invariant-loop-place g l = record {
  lanes : IsUpTo IsKept l.place l.initial.lanes l.lanes;
  many : vec_len l.passes ≡ l.place;
  capacity : vec_capacity l.passes ≡ vec_capacity l.initial.passes;
  among : (p : Pass) → Among p l.passes.items → (w : ℕ) × (lane : _) × (slice_get l.initial.lanes w ≡ Some lane) × HasPass (λ q. q ≡ p) lane;
}
