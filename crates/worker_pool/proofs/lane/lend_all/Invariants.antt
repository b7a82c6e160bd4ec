use Rattle.std.proofs.Common.{◌≡◌, ◌+◌, length, vec_len, vec_capacity}
use Rattle.event_order.specs.Pending.{Among}
use Rattle.turn_table.specs.declared.pass.Pass.{Pass}
use Rattle.worker_pool.specs.Lanes.{IsLent}
use Rattle.worker_pool.proofs.Steps.{IsUpTo}
use Rattle.worker_pool.proofs.lane.lend_all.Given as goal

abbrev pub invariant-loop-place : goal.invariant-loop-place
invariant-loop-place g l = record {
  lanes : IsUpTo (IsLent l.initial.passes.items) l.place l.initial.lanes l.lanes;
  many : vec_len l.passes + l.place ≡ length l.initial.lanes;
  capacity : vec_capacity l.passes ≡ vec_capacity l.initial.passes;
  among : (p : Pass) → Among p l.passes.items → Among p l.initial.passes.items;
}
