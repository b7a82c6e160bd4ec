use Rattle.std.proofs.Common.{◌≡◌}
use Rattle.plan_shares.proofs.Filling.{with_timers}
use Rattle.plan_shares.proofs.counts.put_timers_of.Given as goal

abbrev pub invariant-loop-process : goal.invariant-loop-process
invariant-loop-process l = l.lists ≡ with_timers l.fn.counts l.fn.line l.fn.processes l.fn.lists l.process-index
