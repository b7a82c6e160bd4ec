use Rattle.std.proofs.Common.{◌≡◌, ◌+◌, ◌-◌, ◌≤◌, ◌++◌, reverse, vec_len, vec_capacity}
use Rattle.worker_pool.specs.Laid.{of_timelines}
use Rattle.worker_pool.proofs.laying.take_timelines.Given as goal

abbrev pub invariant-loop-values : goal.invariant-loop-values
invariant-loop-values g l = record {
  items : l.values.items ++ of_timelines (reverse l.timelines.items) ≡ l.initial.values.items;
  many : vec_len l.values + vec_len l.timelines ≡ vec_len l.initial.values;
  most : vec_len l.timelines ≤ l.count;
  capacity : vec_capacity l.timelines ≡ vec_capacity l.initial.timelines;
}

abbrev pub decreases-loop-values : goal.decreases-loop-values
decreases-loop-values g l = l.count - vec_len l.timelines
