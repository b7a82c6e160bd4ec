use Rattle.std.proofs.Common.{◌≡◌, ◌+◌, ◌≤◌, ◌++◌, reverse, vec_len, vec_capacity}
use Rattle.worker_pool.specs.Laid.{of_timelines}
use Rattle.worker_pool.proofs.laying.lay_timelines.Given as goal

abbrev pub invariant-loop-timeline : goal.invariant-loop-timeline
invariant-loop-timeline g l = record {
  items : l.values.items ++ of_timelines (reverse l.timelines.items) ≡ l.initial.values.items ++ of_timelines (reverse l.initial.timelines.items);
  room : vec_len l.values + vec_len l.timelines ≤ vec_capacity l.values;
  values : vec_capacity l.values ≡ vec_capacity l.initial.values;
  kept : vec_capacity l.timelines ≡ vec_capacity l.initial.timelines;
}

abbrev pub decreases-loop-timeline : goal.decreases-loop-timeline
decreases-loop-timeline g l = vec_len l.timelines
