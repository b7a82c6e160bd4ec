use Rattle.sync_core.proofs.Lists.{read_among}
use Rattle.sync_core.proofs.core_parts.mails_of.Goals as goal

pub mail_of-requires-clause-rising : goal.mail_of-requires-clause-rising
mail_of-requires-clause-rising g c κs within =
    c.requires.rising c.timeline-item.result (read_among c.args.timelines.now c.loop-timeline.timeline-index c.timeline-item.result c.loop-timeline-test.true c.timeline-item.is)
