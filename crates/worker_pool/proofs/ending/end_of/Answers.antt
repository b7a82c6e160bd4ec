use Rattle.std.proofs.Common.{◌+◌, subst, IfNone}
use Rattle.worker_pool.specs.Ends.{WasStoppedIn, AreNotStopped}
use Rattle.worker_pool.proofs.Ended.{any_end, no_stop}
use Rattle.worker_pool.proofs.ending.end_of.Goals as goal

pub returns-then-not-has_crossed-clause-end : goal.returns-then-not-has_crossed-clause-end
returns-then-not-has_crossed-clause-end g c =
    let last = c.args.first + c.args.crossings in
    any_end (WasStoppedIn g.G.Gate.stops c.args.lanes.now) last c.drive_on.new.core c.drive_on.result (c.drive_on.ensures.end last)

pub returns-then-not-has_crossed-clause-first : goal.returns-then-not-has_crossed-clause-first
returns-then-not-has_crossed-clause-first g c =
    let last = c.args.first + c.args.crossings in
    no_stop (WasStoppedIn g.G.Gate.stops c.args.lanes.now) last c.drive_on.new.core c.drive_on.result (c.drive_on.ensures.end last) (subst (λ o. IfNone o (AreNotStopped (WasStoppedIn g.G.Gate.stops c.args.lanes.now))) c.in_default.is c.stopped_in.ensures.none)
