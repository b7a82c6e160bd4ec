use Rattle.std.proofs.Common.{◌∙◌}
use Rattle.plan_shares.proofs.Filling.{timer_here, timer_more, untimed_more}
use Rattle.plan_shares.proofs.counts.put_timers_of.Goals as goal
use Rattle.plan_shares.proofs.counts.put_timers_of.Goals.{in-Some+in_ok-put-in-Some, in-None}

pub bounds-counts-timer : goal.bounds-counts-timer
bounds-counts-timer c = c.requires.known c.in-Some.timer (timer_here c.args.processes.now c.loop-process.process-index c.process-item.result c.in-Some.timer c.loop-process-test.true c.process-item.is c.in-Some.is)

pub loop-process-preserved : goal.loop-process-preserved
loop-process-preserved c = elim c.match-process.branch [
  | in-Some+in_ok-put-in-Some w ↦ w.lists-is ∙ timer_more c.args.counts.now c.args.line c.args.processes.now c.args.lists.now c.loop-process.lists w.put.new.self c.loop-process.process-index w.in-Some.timer c.process-item.result
      c.requires.line c.loop-process-test.true c.process-item.is w.in-Some.is c.loop-process.invariant w.in_ok-put-in-Some.ensures
  | in-None w ↦ w.lists-is ∙ untimed_more c.args.counts.now c.args.line c.args.processes.now c.args.lists.now c.loop-process.lists c.loop-process.process-index c.process-item.result c.loop-process-test.true c.process-item.is w.in-None.is c.loop-process.invariant
]
