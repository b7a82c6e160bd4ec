use Rattle.std.proofs.Common.{◌≡◌, ◌∙◌, ap, arith, Ok}
use Rattle.appointments.specs.Mails.{mail_at}
use Rattle.sync_steps.specs.declared.steps.Stepped.TheVariants.{Did}
use Rattle.sync_steps.specs.Between.{can_post}
use Rattle.sync_steps.proofs.Posting.{outbox_filled, not_stepped, nothing_waits}
use Rattle.sync_steps.proofs.between.post_between.Goals as goal

pub overflow_sub-waiting : goal.overflow_sub-waiting
overflow_sub-waiting g c =
    let all = outbox_filled c.args.channel c.args.timeline.now.out_ends c.keeps_order.ensures.filled c.requires.out in omega arith

pub hand_over-requires-clause-room : goal.hand_over-requires-clause-room
hand_over-requires-clause-room g c =
    let all = outbox_filled c.args.channel c.args.timeline.now.out_ends c.keeps_order.ensures.filled c.requires.out in
    let room = c.in_ok-make_room.ensures.spare in omega arith

pub returns-clause-kept_mail : goal.returns-clause-kept_mail
returns-clause-kept_mail g c = λ kept.
    let differ : c.hand_over.result ≡ Did → ⊥ = λ e. kept (ap Ok e) in
    let row = mail_at c.make_room.new.mail c.args.channel in
    let none = nothing_waits c.args.timeline.now c.args.channel row (not_stepped (can_post c.args.timeline.now c.args.channel row) (λ e. differ (c.hand_over.ensures.cause ∙ e))) in
    let all = outbox_filled c.args.channel c.args.timeline.now.out_ends c.keeps_order.ensures.filled c.requires.out in
    c.hand_over.ensures.kept_mail differ ∙ c.in_ok-make_room.ensures.none (omega arith)
