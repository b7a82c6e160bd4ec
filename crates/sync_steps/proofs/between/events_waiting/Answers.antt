use Rattle.std.proofs.Common.{◌+◌, ◌∙◌, ap, get_or}
use Rattle.sync_steps.proofs.Taking.{known_cross, no_cross, cross_is, counted_next}
use Rattle.sync_steps.proofs.between.events_waiting.Goals as goal

pub events_on_channel-requires-clause-known : goal.events_on_channel-requires-clause-known
events_on_channel-requires-clause-known g c κs within =
    known_cross c.ins-ins.result.now c.args.timeline.now.ins c.args.mail.now.channels c.loop-cross.cross-index c.requires.channels c.ins-ins.ensures c.loop-cross-test.true

pub loop-cross-preserved : goal.loop-cross-preserved
loop-cross-preserved g c =
    c.in_ok-waiting.ensures.1 ∙ ap (λ n. c.loop-cross.waiting + n) c.events_on_channel.ensures
    ∙ counted_next c.args.mail.now c.ins-ins.result.now c.loop-cross.cross-index (get_or c.ins-ins.result.now c.loop-cross.cross-index no_cross) c.loop-cross.waiting c.loop-cross-test.true
    (cross_is c.ins-ins.result.now c.loop-cross.cross-index c.loop-cross-test.true) c.loop-cross.invariant
