use Rattle.std.proofs.Common.{arith}
use Rattle.host_sending.proofs.Tabling.{begin_with, go_on, ends_with}
use Rattle.host_sending.proofs.lookup.last_begun.Goals as goal

pub loop-place-init : goal.loop-place-init
loop-place-init c = begin_with c.args.periods.now c.args.now

pub loop-place-preserved : goal.loop-place-preserved
loop-place-preserved c = go_on c.args.periods.now c.args.now c.loop-place.place c.loop-place.last c.later-last.result c.loop-place.invariant (omega arith) c.later-last.ensures.routes c.later-last.ensures.within

pub returns-clause-routes : goal.returns-clause-routes
returns-clause-routes c = ends_with c.args.periods.now c.args.now c.loop-place.place c.loop-place.last c.loop-place.invariant (omega arith)
