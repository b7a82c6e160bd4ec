use Rattle.std.proofs.Common.{refl, sym, ◌∙◌}
use Rattle.std.proofs.lemmas.Result.{on_ok_weaker}
use Rattle.turn_table.specs.Passes.{view_of}
use Rattle.turn_table.specs.Turned.{key_of}
use Rattle.share_rules.proofs.Taking.{receiver_known}
use Rattle.worker_turns.proofs.Posting.{may_post, may_read, noted_before, posted_rises, mail_back, has_posted}
use Rattle.worker_turns.proofs.Posts.{posts_on_asked}
use Rattle.sync_steps.specs.declared.steps.Step.TheVariants.{Post}
use Rattle.worker_turns.proofs.Stepping.{is_posting, steps_of}
use Rattle.worker_turns.proofs.task.post_on.Goals as goal

pub bring_mail-requires-clause-receiver : goal.bring_mail-requires-clause-receiver
bring_mail-requires-clause-receiver g c κs within =
    receiver_known (g.B.Behaviour.valid (key_of c.args.table.now.turns.now).value.behaviour) (g.B.Behaviour.carried (key_of c.args.table.now.turns.now).value.behaviour) (g.B.Behaviour.reaction (key_of c.args.table.now.turns.now).value.behaviour) (g.met.B.Behaviour.sound (key_of c.args.table.now.turns.now).value.behaviour) (g.met.B.Behaviour.modest (key_of c.args.table.now.turns.now).value.behaviour)
    (key_of c.args.table.now.turns.now).value c.requires.run c.args.place c.args.end.now c.requires.end

pub post_shares-posted-requires-after_bounds : goal.post_shares-posted-requires-after_bounds
post_shares-posted-requires-after_bounds g c κs within =
    may_post g.B.Behaviour.valid g.B.Behaviour.carried g.B.Behaviour.reaction (key_of c.args.table.now.turns.now).value c.requires.run c.args.table.now.number c.args.place c.args.end.now c.requires.end c.requires.sender (view_of c.args.pass.now) (view_of c.bring_mail.new.pass) c.args.own.now c.in-Some.mail c.requires.has c.in-Some.ensures.stays c.in-Some.ensures.mail
    c.value.result.now c.value-2.result.now c.value.ensures.value c.value-2.ensures.value

pub posted-requires : goal.posted-requires
posted-requires g c =
    may_read g.B.Behaviour.valid g.B.Behaviour.carried g.B.Behaviour.reaction (key_of c.args.table.now.turns.now).value c.requires.run c.args.table.now.number c.args.place c.args.end.now c.requires.end c.requires.sender (view_of c.args.pass.now) (view_of c.bring_mail.new.pass) c.args.own.now c.in-Some.mail c.requires.has c.in-Some.ensures.stays c.in-Some.ensures.mail
    c.value.result.now c.value-2.result.now c.value.ensures.value c.value-2.ensures.value
    c.post_shares-posted.new.own c.post_shares-posted.new.mail c.post_shares-posted.ensures.posted
    c.mail.result.now (sym c.value-3.ensures.value ∙ c.mail.ensures)
    (g.met.B.Behaviour.sound (key_of c.args.table.now.turns.now).value.behaviour) (g.met.B.Behaviour.modest (key_of c.args.table.now.turns.now).value.behaviour)

pub write_posted-requires-clause-noted : goal.write_posted-requires-clause-noted
write_posted-requires-clause-noted g c κs within =
    noted_before g.B.Behaviour.valid g.B.Behaviour.carried g.B.Behaviour.reaction (key_of c.args.table.now.turns.now).value c.requires.run c.args.table.now.number c.args.place c.args.end.now c.requires.end c.requires.sender (view_of c.args.pass.now) (view_of c.bring_mail.new.pass) c.args.own.now c.in-Some.mail c.requires.has c.in-Some.ensures.stays c.in-Some.ensures.mail
    c.value.result.now c.value-2.result.now c.value.ensures.value c.value-2.ensures.value
    c.post_shares-posted.new.own c.post_shares-posted.new.mail c.post_shares-posted.ensures.posted
    c.mail.result.now (sym c.value-3.ensures.value ∙ c.mail.ensures)
    c.posted.result c.posted.ensures

pub write_posted-requires-clause-rises : goal.write_posted-requires-clause-rises
write_posted-requires-clause-rises g c κs within =
    posted_rises g.B.Behaviour.valid g.B.Behaviour.carried g.B.Behaviour.reaction (key_of c.args.table.now.turns.now).value c.requires.run c.args.table.now.number c.args.place c.args.end.now c.requires.end c.requires.sender (view_of c.args.pass.now) (view_of c.bring_mail.new.pass) c.args.own.now c.in-Some.mail c.requires.has c.in-Some.ensures.stays c.in-Some.ensures.mail
    c.value.result.now c.value-2.result.now c.value.ensures.value c.value-2.ensures.value
    c.post_shares-posted.new.own c.post_shares-posted.new.mail c.post_shares-posted.ensures.posted
    c.mail.result.now (sym c.value-3.ensures.value ∙ c.mail.ensures)
    c.posted.result c.posted.ensures

pub give_mail-requires-clause-mail : goal.give_mail-requires-clause-mail
give_mail-requires-clause-mail g c κs within =
    mail_back g.B.Behaviour.valid g.B.Behaviour.carried g.B.Behaviour.reaction (key_of c.args.table.now.turns.now).value c.requires.run c.args.table.now.number c.args.place c.args.end.now c.requires.end c.requires.sender (view_of c.args.pass.now) (view_of c.bring_mail.new.pass) c.args.own.now c.in-Some.mail c.requires.has c.in-Some.ensures.stays c.in-Some.ensures.mail
    c.value.result.now c.value-2.result.now c.value.ensures.value c.value-2.ensures.value
    c.post_shares-posted.new.own c.post_shares-posted.new.mail c.post_shares-posted.ensures.posted
    c.mail.result.now (sym c.value-3.ensures.value ∙ c.mail.ensures)
    c.posted.result c.posted.ensures
    (view_of c.write_posted.new.pass) c.write_posted.ensures.view c.write_posted.ensures.marks
    c.value-3.result.now c.value-3.ensures.value

pub returns-clause-has : goal.returns-clause-has
returns-clause-has g c =
    has_posted g.B.Behaviour.valid g.B.Behaviour.carried g.B.Behaviour.reaction (key_of c.args.table.now.turns.now).value c.requires.run c.args.table.now.number c.args.place c.args.end.now c.requires.end c.requires.sender (view_of c.args.pass.now) (view_of c.bring_mail.new.pass) c.args.own.now c.in-Some.mail c.requires.has c.in-Some.ensures.stays c.in-Some.ensures.mail
    c.value.result.now c.value-2.result.now c.value.ensures.value c.value-2.ensures.value
    c.post_shares-posted.new.own c.post_shares-posted.new.mail c.post_shares-posted.ensures.posted
    c.mail.result.now (sym c.value-3.ensures.value ∙ c.mail.ensures)
    c.posted.result c.posted.ensures
    (view_of c.write_posted.new.pass) c.write_posted.ensures.view c.write_posted.ensures.marks
    (view_of c.give_mail.new.pass) c.post_shares-posted.new.own refl c.give_mail.ensures.holds c.give_mail.ensures.stays

pub returns-clause-done : goal.returns-clause-done
returns-clause-done g c =
    on_ok_weaker c.post_shares-posted.result (posts_on_asked (key_of c.args.table.now.turns.now).value c.args.table.now.number c.args.end.now (view_of c.args.pass.now) (view_of c.give_mail.new.pass) c.args.hand.now c.post_shares-posted.new.hand c.post_shares-posted.ensures.asked)
    c.post_shares-posted.ensures.done

pub returns-clause-steps : goal.returns-clause-steps
returns-clause-steps g c = steps_of (key_of c.args.table.now.turns.now).value c.args.table.now.number (Post c.args.table.now.number c.args.end.now.channel) (is_posting (key_of c.args.table.now.turns.now).value c.args.table.now.number c.args.place c.args.end.now c.requires.end c.requires.sender) c.args.hand.now c.post_shares-posted.new.hand c.post_shares-posted.ensures.asked
