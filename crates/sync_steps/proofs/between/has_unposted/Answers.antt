use Rattle.std.proofs.Common.{◌∙◌, length}
use Rattle.timeline_parts.specs.Sending.{written_of}
use Rattle.timeline.specs.Lines.{posted_of, outbox_of}
use Rattle.sync_steps.proofs.Posting.{outbox_filled, waiting_is}
use Rattle.sync_steps.proofs.between.has_unposted.Goals as goal

pub returns : goal.returns
returns g c =
    let ends = c.args.timeline.now.out_ends in
    let channel = c.args.channel in
    waiting_is (posted_of ends channel) (length (outbox_of ends channel)) (written_of ends channel) c.posted.result c.written.result
    (outbox_filled channel ends c.keeps_order.ensures.filled c.requires.out) (c.posted.ensures ∙ c.requires.joined) c.written.ensures
