use Rattle.std.proofs.Common.{◌≡◌, ◌∙◌, sym, false, rules}
use Rattle.appointments.specs.Mails.{mail_at}
use Rattle.sync_steps.specs.Between.{can_post}
use Rattle.sync_steps.proofs.Posting.{handed_is, timeline_same, news_is, parcel_is}
use Rattle.sync_steps.proofs.between.hand_over.Goals as goal

pub returns-then-not-has_news-clause-kept_timeline : goal.returns-then-not-has_news-clause-kept_timeline
returns-then-not-has_news-clause-kept_timeline g c = λ kept.
    let t = c.args.timeline.now in
    let row = mail_at c.args.mail.now c.args.channel in
    let q = c.outbox-parcel.ensures.posted in
    let none : c.has_news.result ≡ false = search rules in
    let may : can_post t c.args.channel row ≡ false =
    sym (news_is t c.args.channel c.outbox-parcel.result c.appointment.result row (parcel_is t c.args.channel c.outbox-parcel.result c.outbox-parcel.new.self q) c.appointment.ensures)
    ∙ sym c.has_news.ensures ∙ none in
    handed_is t c.args.channel c.outbox-parcel.result c.outbox-parcel.new.self q ∙ timeline_same t c.args.channel row c.keeps_order.ensures may
