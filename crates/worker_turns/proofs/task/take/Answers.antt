use Rattle.std.proofs.Common.{sym, ◌∙◌}
use Rattle.std.proofs.lemmas.Result.{on_ok_weaker}
use Rattle.turn_table.specs.Passes.{view_of}
use Rattle.turn_table.specs.Turned.{key_of}
use Rattle.worker_turns.proofs.Taking.{may_take, may_write, taken_up_to, mail_back, has_taken, takes_asked}
use Rattle.sync_steps.specs.declared.steps.Step.TheVariants.{Take}
use Rattle.worker_turns.proofs.Stepping.{is_taking, steps_of}
use Rattle.worker_turns.proofs.task.take.Goals as goal

pub take_shares-taken-requires-after_bounds : goal.take_shares-taken-requires-after_bounds
take_shares-taken-requires-after_bounds g c κs within =
    may_take g.B.Behaviour.valid g.B.Behaviour.carried g.B.Behaviour.reaction (key_of c.args.table.now.turns.now).value c.requires.run c.args.table.now.number (view_of c.args.pass.now) (view_of c.bring_mail.new.pass) c.args.own.now c.in-Some.mail c.requires.has c.in-Some.ensures.stays c.in-Some.ensures.mail
    c.value.result.now c.value-2.result.now c.value.ensures.value c.value-2.ensures.value

pub write_taken-requires-clause-timeline : goal.write_taken-requires-clause-timeline
write_taken-requires-clause-timeline g c κs within =
    may_write g.B.Behaviour.valid g.B.Behaviour.carried g.B.Behaviour.reaction (key_of c.args.table.now.turns.now).value c.requires.run c.args.table.now.number (view_of c.args.pass.now) (view_of c.bring_mail.new.pass) c.args.own.now c.in-Some.mail c.requires.has c.in-Some.ensures.stays c.in-Some.ensures.mail
    c.value.result.now c.value-2.result.now c.value.ensures.value c.value-2.ensures.value
    c.take_shares-taken.new.own c.take_shares-taken.new.mail c.take_shares-taken.ensures.taken
    c.timeline.result.now (sym c.value-3.ensures.value ∙ c.timeline.ensures)

pub write_taken-requires-clause-rises : goal.write_taken-requires-clause-rises
write_taken-requires-clause-rises g c κs within =
    taken_up_to g.B.Behaviour.valid g.B.Behaviour.carried g.B.Behaviour.reaction (key_of c.args.table.now.turns.now).value c.requires.run c.args.table.now.number (view_of c.args.pass.now) (view_of c.bring_mail.new.pass) c.args.own.now c.in-Some.mail c.requires.has c.in-Some.ensures.stays c.in-Some.ensures.mail
    c.value.result.now c.value-2.result.now c.value.ensures.value c.value-2.ensures.value
    c.take_shares-taken.new.own c.take_shares-taken.new.mail c.take_shares-taken.ensures.taken
    c.timeline.result.now (sym c.value-3.ensures.value ∙ c.timeline.ensures)

pub give_mail-requires-clause-mail : goal.give_mail-requires-clause-mail
give_mail-requires-clause-mail g c κs within =
    mail_back g.B.Behaviour.valid g.B.Behaviour.carried g.B.Behaviour.reaction (key_of c.args.table.now.turns.now).value c.requires.run c.args.table.now.number (view_of c.args.pass.now) (view_of c.bring_mail.new.pass) c.args.own.now c.in-Some.mail c.requires.has c.in-Some.ensures.stays c.in-Some.ensures.mail
    c.value.result.now c.value-2.result.now c.value.ensures.value c.value-2.ensures.value
    c.take_shares-taken.new.own c.take_shares-taken.new.mail c.take_shares-taken.ensures.taken
    c.timeline.result.now (sym c.value-3.ensures.value ∙ c.timeline.ensures)
    (view_of c.write_taken.new.pass) c.write_taken.ensures.written

pub returns-clause-has : goal.returns-clause-has
returns-clause-has g c =
    has_taken g.B.Behaviour.valid g.B.Behaviour.carried g.B.Behaviour.reaction (key_of c.args.table.now.turns.now).value c.requires.run c.args.table.now.number (view_of c.args.pass.now) (view_of c.bring_mail.new.pass) c.args.own.now c.in-Some.mail c.requires.has c.in-Some.ensures.stays c.in-Some.ensures.mail
    c.value.result.now c.value-2.result.now c.value.ensures.value c.value-2.ensures.value
    c.take_shares-taken.new.own c.take_shares-taken.new.mail c.take_shares-taken.ensures.taken
    c.timeline.result.now (sym c.value-3.ensures.value ∙ c.timeline.ensures)
    (view_of c.write_taken.new.pass) c.write_taken.ensures.written (view_of c.give_mail.new.pass) c.value-3.result.now c.value-3.ensures.value c.give_mail.ensures.holds c.give_mail.ensures.stays

pub returns-clause-done : goal.returns-clause-done
returns-clause-done g c =
    on_ok_weaker c.take_shares-taken.result (takes_asked (key_of c.args.table.now.turns.now).value c.args.table.now.number (view_of c.args.pass.now) (view_of c.give_mail.new.pass) c.args.hand.now c.take_shares-taken.new.hand c.take_shares-taken.ensures.asked)
    c.take_shares-taken.ensures.done

pub returns-clause-steps : goal.returns-clause-steps
returns-clause-steps g c = steps_of (key_of c.args.table.now.turns.now).value c.args.table.now.number (Take c.args.table.now.number) (is_taking (key_of c.args.table.now.turns.now).value c.args.table.now.number) c.args.hand.now c.take_shares-taken.new.hand c.take_shares-taken.ensures.asked
