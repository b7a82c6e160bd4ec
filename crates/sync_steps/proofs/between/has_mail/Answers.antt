use Rattle.sync_steps.proofs.Taking.{known_cross}
use Rattle.sync_steps.proofs.between.has_mail.Goals as goal

pub has_mail_on-requires-clause-known : goal.has_mail_on-requires-clause-known
has_mail_on-requires-clause-known g c κs within =
    known_cross c.ins-ins.result.now c.args.timeline.now.ins c.args.mail.now.channels c.loop-cross.cross-index c.requires.channels c.ins-ins.ensures c.loop-cross-test.true
