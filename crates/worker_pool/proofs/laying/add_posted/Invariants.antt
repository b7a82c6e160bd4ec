use Rattle.std.proofs.Common.{◌≡◌, ◌+◌, ◌++◌, map, take, vec_len, vec_capacity}
use Rattle.sync_core.specs.Cores.{core_of}
use Rattle.share_rules.specs.Places.{posted_on}
use Rattle.worker_pool.proofs.laying.add_posted.Given as goal

abbrev pub invariant-loop-end : goal.invariant-loop-end
invariant-loop-end g l = record {
  items : l.counts.items ≡ l.initial.counts.items ++ map (posted_on (core_of l.parts)) (take l.end-index l.parts.ends.items);
  len : vec_len l.counts ≡ vec_len l.initial.counts + l.end-index;
  capacity : vec_capacity l.counts ≡ vec_capacity l.initial.counts;
}
