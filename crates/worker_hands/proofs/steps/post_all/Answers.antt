use Rattle.std.proofs.Common.{◌≡◌, rules, refl, ap, ◌∙◌, Ok}
use Rattle.appointments.specs.Mails.{mail_at}
use Rattle.sync_steps.specs.declared.steps.Step.TheVariants.{Post}
use Rattle.sync_steps.specs.declared.steps.Stepped.TheVariants.{Did, NotEnabled}
use Rattle.sync_steps.specs.Between.{can_post, IsPostedTo}
use Rattle.worker_hands.specs.declared.hand.Answer.TheVariants.{Done, Memory as NoMemory}
use Rattle.worker_hands.specs.Hands.{after_made}
use Rattle.worker_hands.proofs.Asking.{told_one, told_two, IsIdle, once, twice, then_last}
use Rattle.worker_hands.proofs.Again.{not_enabled, not_did, posted_again}
use Rattle.worker_hands.proofs.Making.{if_posted, if_posted_kept, if_not_posted, post_out, post_mail, post_joins, post_posted}
use Rattle.worker_hands.proofs.steps.post_all.Goals as goal

pub post-requires-clause-out : goal.post-requires-clause-out
post-requires-clause-out g c κs within = post_out g.B.Behaviour.valid g.B.Behaviour.carried g.B.Behaviour.reaction g.met.B.Behaviour.sound g.met.B.Behaviour.modest c.args.number c.args.channel c.args.timeline.now c.args.mail.now c.requires.paired

pub post-requires-clause-mail : goal.post-requires-clause-mail
post-requires-clause-mail g c κs within = post_mail g.B.Behaviour.valid g.B.Behaviour.carried g.B.Behaviour.reaction g.met.B.Behaviour.sound g.met.B.Behaviour.modest c.args.number c.args.channel c.args.timeline.now c.args.mail.now c.requires.paired

pub post-requires-clause-joined : goal.post-requires-clause-joined
post-requires-clause-joined g c κs within = post_joins g.B.Behaviour.valid g.B.Behaviour.carried g.B.Behaviour.reaction g.met.B.Behaviour.sound g.met.B.Behaviour.modest c.args.number c.args.channel c.args.timeline.now c.args.mail.now c.requires.paired

pub returns-in_err-post-clause-posted : goal.returns-in_err-post-clause-posted
returns-in_err-post-clause-posted g c =
    if_not_posted g.B.Behaviour.valid g.B.Behaviour.carried g.B.Behaviour.reaction g.met.B.Behaviour.sound g.met.B.Behaviour.modest c.args.number c.args.channel c.args.timeline.now c.post.new.timeline c.args.mail.now c.post.new.mail
    (c.in_err-post.ensures.kept_timeline (λ did. (cc))) (c.in_err-post.ensures.kept_mail (λ did. (cc)))

pub post-requires-then-eq-clause-out : goal.post-requires-then-eq-clause-out
post-requires-then-eq-clause-out g c κs within =
    let did : c.in_ok-post.field-0 ≡ Did = search rules in
    let t = c.post.new.timeline in
    let x = c.post.new.mail in
    post_out g.B.Behaviour.valid g.B.Behaviour.carried g.B.Behaviour.reaction g.met.B.Behaviour.sound g.met.B.Behaviour.modest c.args.number c.args.channel t x
    (post_posted g.B.Behaviour.valid g.B.Behaviour.carried g.B.Behaviour.reaction g.met.B.Behaviour.sound g.met.B.Behaviour.modest c.args.number c.args.channel c.args.timeline.now t c.args.mail.now x c.requires.paired
    (if_posted g.B.Behaviour.valid g.B.Behaviour.carried g.B.Behaviour.reaction g.met.B.Behaviour.sound g.met.B.Behaviour.modest c.args.number c.args.channel c.args.timeline.now t c.args.mail.now x (c.in_ok-post.ensures.did (ap Ok did))))

pub post-requires-then-eq-clause-mail : goal.post-requires-then-eq-clause-mail
post-requires-then-eq-clause-mail g c κs within =
    let did : c.in_ok-post.field-0 ≡ Did = search rules in
    let t = c.post.new.timeline in
    let x = c.post.new.mail in
    post_mail g.B.Behaviour.valid g.B.Behaviour.carried g.B.Behaviour.reaction g.met.B.Behaviour.sound g.met.B.Behaviour.modest c.args.number c.args.channel t x
    (post_posted g.B.Behaviour.valid g.B.Behaviour.carried g.B.Behaviour.reaction g.met.B.Behaviour.sound g.met.B.Behaviour.modest c.args.number c.args.channel c.args.timeline.now t c.args.mail.now x c.requires.paired
    (if_posted g.B.Behaviour.valid g.B.Behaviour.carried g.B.Behaviour.reaction g.met.B.Behaviour.sound g.met.B.Behaviour.modest c.args.number c.args.channel c.args.timeline.now t c.args.mail.now x (c.in_ok-post.ensures.did (ap Ok did))))

pub post-requires-then-eq-clause-joined : goal.post-requires-then-eq-clause-joined
post-requires-then-eq-clause-joined g c κs within =
    let did : c.in_ok-post.field-0 ≡ Did = search rules in
    let t = c.post.new.timeline in
    let x = c.post.new.mail in
    post_joins g.B.Behaviour.valid g.B.Behaviour.carried g.B.Behaviour.reaction g.met.B.Behaviour.sound g.met.B.Behaviour.modest c.args.number c.args.channel t x
    (post_posted g.B.Behaviour.valid g.B.Behaviour.carried g.B.Behaviour.reaction g.met.B.Behaviour.sound g.met.B.Behaviour.modest c.args.number c.args.channel c.args.timeline.now t c.args.mail.now x c.requires.paired
    (if_posted g.B.Behaviour.valid g.B.Behaviour.carried g.B.Behaviour.reaction g.met.B.Behaviour.sound g.met.B.Behaviour.modest c.args.number c.args.channel c.args.timeline.now t c.args.mail.now x (c.in_ok-post.ensures.did (ap Ok did))))

pub returns-in_err-post-2-clause-posted : goal.returns-in_err-post-2-clause-posted
returns-in_err-post-2-clause-posted g c =
    let did : c.in_ok-post.field-0 ≡ Did = search rules in
    if_posted_kept g.B.Behaviour.valid g.B.Behaviour.carried g.B.Behaviour.reaction g.met.B.Behaviour.sound g.met.B.Behaviour.modest c.args.number c.args.channel c.args.timeline.now c.post.new.timeline c.post-then-eq.new.timeline c.args.mail.now c.post.new.mail c.post-then-eq.new.mail
    (c.in_ok-post.ensures.did (ap Ok did)) (c.in_err-post-2.ensures.kept_timeline (λ did. (cc))) (c.in_err-post-2.ensures.kept_mail (λ did. (cc)))

pub returns-in_err-post-2-clause-asked : goal.returns-in_err-post-2-clause-asked
returns-in_err-post-2-clause-asked g c =
    twice (Post c.args.number c.args.channel) (Done c.in_ok-post.field-0) NoMemory c.args.hand.now c.post.new.self c.post-then-eq.new.self c.in_ok-post.ensures.list c.in_err-post-2.ensures.list refl refl

pub returns-in_ok-post-2-clause-posted : goal.returns-in_ok-post-2-clause-posted
returns-in_ok-post-2-clause-posted g c =
    let did : c.in_ok-post.field-0 ≡ Did = search rules in
    let first : IsPostedTo c.args.channel c.args.timeline.now c.post.new.timeline c.args.mail.now c.post.new.mail = c.in_ok-post.ensures.did (ap Ok did) in
    let none : c.in_ok-post-2.field-0 ≡ NotEnabled = not_enabled (can_post c.post.new.timeline c.args.channel (mail_at c.post.new.mail c.args.channel)) c.in_ok-post-2.field-0 c.in_ok-post-2.ensures.cause
    (posted_again c.args.channel c.args.timeline.now c.post.new.timeline c.args.mail.now c.post.new.mail first) in
    if_posted_kept g.B.Behaviour.valid g.B.Behaviour.carried g.B.Behaviour.reaction g.met.B.Behaviour.sound g.met.B.Behaviour.modest c.args.number c.args.channel c.args.timeline.now c.post.new.timeline c.post-then-eq.new.timeline c.args.mail.now c.post.new.mail c.post-then-eq.new.mail
    first (c.in_ok-post-2.ensures.kept_timeline (λ did. not_did c.in_ok-post-2.field-0 none (cc))) (c.in_ok-post-2.ensures.kept_mail (λ did. not_did c.in_ok-post-2.field-0 none (cc)))

pub returns-in_ok-post-2-clause-asked : goal.returns-in_ok-post-2-clause-asked
returns-in_ok-post-2-clause-asked g c =
    twice (Post c.args.number c.args.channel) (Done c.in_ok-post.field-0) (Done c.in_ok-post-2.field-0) c.args.hand.now c.post.new.self c.post-then-eq.new.self c.in_ok-post.ensures.list c.in_ok-post-2.ensures.list refl refl

pub returns-in_ok-post-2-clause-done : goal.returns-in_ok-post-2-clause-done
returns-in_ok-post-2-clause-done g c =
    let did : c.in_ok-post.field-0 ≡ Did = search rules in
    let none : c.in_ok-post-2.field-0 ≡ NotEnabled = not_enabled (can_post c.post.new.timeline c.args.channel (mail_at c.post.new.mail c.args.channel)) c.in_ok-post-2.field-0 c.in_ok-post-2.ensures.cause
    (posted_again c.args.channel c.args.timeline.now c.post.new.timeline c.args.mail.now c.post.new.mail (c.in_ok-post.ensures.did (ap Ok did))) in
    then_last (Post c.args.number c.args.channel) (Done NotEnabled) (IsIdle (Post c.args.number c.args.channel)) c.args.hand.now c.post.new.self c.post-then-eq.new.self
    (once (Post c.args.number c.args.channel) (Done c.in_ok-post.field-0) c.args.hand.now c.post.new.self c.in_ok-post.ensures.list refl)
    (c.in_ok-post-2.ensures.list ∙ ap (λ a. after_made (record { step = Post c.args.number c.args.channel; answer = Done a }) c.post.new.self) none)

pub returns-else-eq-clause-posted : goal.returns-else-eq-clause-posted
returns-else-eq-clause-posted g c =
    let none : c.in_ok-post.field-0 ≡ NotEnabled = search rules in
    if_not_posted g.B.Behaviour.valid g.B.Behaviour.carried g.B.Behaviour.reaction g.met.B.Behaviour.sound g.met.B.Behaviour.modest c.args.number c.args.channel c.args.timeline.now c.post.new.timeline c.args.mail.now c.post.new.mail
    (c.in_ok-post.ensures.kept_timeline (λ did. not_did c.in_ok-post.field-0 none (cc))) (c.in_ok-post.ensures.kept_mail (λ did. not_did c.in_ok-post.field-0 none (cc)))

pub returns-in_err-post-clause-told : goal.returns-in_err-post-clause-told
returns-in_err-post-clause-told g c = told_one (record { step = Post c.args.number c.args.channel; answer = NoMemory }) c.args.hand.now c.post.new.self c.in_err-post.ensures.list

pub returns-in_err-post-2-clause-told : goal.returns-in_err-post-2-clause-told
returns-in_err-post-2-clause-told g c =
    told_two (record { step = Post c.args.number c.args.channel; answer = Done c.in_ok-post.field-0 }) (record { step = Post c.args.number c.args.channel; answer = NoMemory }) c.args.hand.now c.post.new.self c.post-then-eq.new.self c.in_ok-post.ensures.list c.in_err-post-2.ensures.list

pub returns-in_ok-post-2-clause-told : goal.returns-in_ok-post-2-clause-told
returns-in_ok-post-2-clause-told g c =
    told_two (record { step = Post c.args.number c.args.channel; answer = Done c.in_ok-post.field-0 }) (record { step = Post c.args.number c.args.channel; answer = Done c.in_ok-post-2.field-0 }) c.args.hand.now c.post.new.self c.post-then-eq.new.self c.in_ok-post.ensures.list c.in_ok-post-2.ensures.list

pub returns-else-eq-clause-told : goal.returns-else-eq-clause-told
returns-else-eq-clause-told g c = told_one (record { step = Post c.args.number c.args.channel; answer = Done c.in_ok-post.field-0 }) c.args.hand.now c.post.new.self c.in_ok-post.ensures.list
