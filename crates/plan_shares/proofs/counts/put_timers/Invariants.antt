use Rattle.std.proofs.Common.{◌≡◌}
use Rattle.alignment.specs.Alignment.{timeline_count}
use Rattle.plan_shares.specs.Lists.{for_each}
use Rattle.plan_shares.proofs.Filling.{first_timers}
use Rattle.plan_shares.proofs.counts.put_timers.Given as goal

abbrev pub invariant-loop-index : goal.invariant-loop-index
invariant-loop-index g l = l.lists ≡ for_each (timeline_count l.fn.alignment) (first_timers l.fn.counts l.fn.alignment l.index l.fn.entities)
