use Rattle.std.proofs.Common.{◌≡◌, ◌+◌, ◌++◌, map, take, vec_len, vec_capacity}
use Rattle.share_rules.specs.Places.{executed_in}
use Rattle.worker_pool.proofs.laying.add_done.Given as goal

abbrev pub invariant-loop-timeline : goal.invariant-loop-timeline
invariant-loop-timeline g l = record {
  items : l.counts.items ≡ l.initial.counts.items ++ map executed_in (take l.timeline-index l.parts.timelines.items);
  len : vec_len l.counts ≡ vec_len l.initial.counts + l.timeline-index;
  capacity : vec_capacity l.counts ≡ vec_capacity l.initial.counts;
}
