use Rattle.std.proofs.Common.{refl, sym, ◌∙◌}
use Rattle.turn_table.specs.Passes.{view_of}
use Rattle.turn_table.specs.Turned.{key_of}
use Rattle.worker_hands.proofs.Asking.{told_then}
use Rattle.worker_turns.proofs.Meeting.{may_report, at_reported, may_cross, at_same, round_rises, round_kept, at_crossed}
use Rattle.worker_turns.proofs.Working.{meetings_asked, told_three}
use Rattle.worker_turns.proofs.Stepping.{entered_reported, entered_crossed}
use Rattle.worker_turns.proofs.task.meet_once.Goals as goal

pub report_share-requires-after_bounds : goal.report_share-requires-after_bounds
report_share-requires-after_bounds g c κs within =
    may_report g.B.Behaviour.valid g.B.Behaviour.carried g.B.Behaviour.reaction (key_of c.args.table.now.turns.now).value c.requires.run c.args.table.now.number (view_of c.args.pass.now) c.args.own.now c.args.barrier.now c.requires.at
    c.value.result.now c.value.ensures.value c.barrier.result.now (sym c.value-2.ensures.value ∙ c.barrier.ensures) c.enter_share.new.own c.enter_share.ensures.entered
    c.timeline.result.now (sym c.value-3.ensures.value ∙ c.timeline.ensures) c.value-4.result.now (c.value-4.ensures.value ∙ c.value-2.ensures.value)

pub returns-in_err-report_share-clause-at : goal.returns-in_err-report_share-clause-at
returns-in_err-report_share-clause-at g c =
    at_reported g.B.Behaviour.valid g.B.Behaviour.carried g.B.Behaviour.reaction (key_of c.args.table.now.turns.now).value c.requires.run c.args.table.now.number (view_of c.args.pass.now) c.args.own.now c.args.barrier.now c.requires.at
    c.value.result.now c.value.ensures.value c.barrier.result.now (sym c.value-2.ensures.value ∙ c.barrier.ensures) c.enter_share.new.own c.enter_share.ensures.entered
    c.timeline.result.now (sym c.value-3.ensures.value ∙ c.timeline.ensures) c.value-4.result.now (c.value-4.ensures.value ∙ c.value-2.ensures.value)
    c.report_share.new.barrier c.report_share.ensures.reported c.value-3.result.now c.report_share.new.barrier c.value-3.ensures.value refl

pub cross_share-crossed-requires-after_bounds : goal.cross_share-crossed-requires-after_bounds
cross_share-crossed-requires-after_bounds g c κs within =
    may_cross g.B.Behaviour.valid g.B.Behaviour.carried g.B.Behaviour.reaction (key_of c.args.table.now.turns.now).value c.requires.run c.args.table.now.number (view_of c.args.pass.now) (record { place = c.args.own.now.place; value = c.value-3.result.now }) (record { place = c.args.barrier.now.place; value = c.report_share.new.barrier })
    (at_reported g.B.Behaviour.valid g.B.Behaviour.carried g.B.Behaviour.reaction (key_of c.args.table.now.turns.now).value c.requires.run c.args.table.now.number (view_of c.args.pass.now) c.args.own.now c.args.barrier.now c.requires.at
    c.value.result.now c.value.ensures.value c.barrier.result.now (sym c.value-2.ensures.value ∙ c.barrier.ensures) c.enter_share.new.own c.enter_share.ensures.entered
    c.timeline.result.now (sym c.value-3.ensures.value ∙ c.timeline.ensures) c.value-4.result.now (c.value-4.ensures.value ∙ c.value-2.ensures.value)
    c.report_share.new.barrier c.report_share.ensures.reported c.value-3.result.now c.report_share.new.barrier c.value-3.ensures.value refl)
    c.value-5.result.now c.value-5.ensures.value
    (g.met.B.Behaviour.sound (key_of c.args.table.now.turns.now).value.behaviour) (g.met.B.Behaviour.modest (key_of c.args.table.now.turns.now).value.behaviour)

pub write_round-requires-clause-rises : goal.write_round-requires-clause-rises
write_round-requires-clause-rises g c κs within =
    round_rises g.B.Behaviour.valid g.B.Behaviour.carried g.B.Behaviour.reaction (key_of c.args.table.now.turns.now).value c.requires.run c.args.table.now.number (view_of c.args.pass.now) (record { place = c.args.own.now.place; value = c.value-3.result.now }) (record { place = c.args.barrier.now.place; value = c.report_share.new.barrier })
    (at_reported g.B.Behaviour.valid g.B.Behaviour.carried g.B.Behaviour.reaction (key_of c.args.table.now.turns.now).value c.requires.run c.args.table.now.number (view_of c.args.pass.now) c.args.own.now c.args.barrier.now c.requires.at
    c.value.result.now c.value.ensures.value c.barrier.result.now (sym c.value-2.ensures.value ∙ c.barrier.ensures) c.enter_share.new.own c.enter_share.ensures.entered
    c.timeline.result.now (sym c.value-3.ensures.value ∙ c.timeline.ensures) c.value-4.result.now (c.value-4.ensures.value ∙ c.value-2.ensures.value)
    c.report_share.new.barrier c.report_share.ensures.reported c.value-3.result.now c.report_share.new.barrier c.value-3.ensures.value refl)
    c.value-5.result.now c.value-5.ensures.value
    c.cross_share-crossed.result c.cross_share-crossed.new.barrier c.cross_share-crossed.ensures.crossed
    c.barrier-then-crossed.result.now (sym c.value-then-crossed.ensures.value ∙ c.barrier-then-crossed.ensures) c.round.result c.round.ensures

pub write_round-requires-clause-keeps : goal.write_round-requires-clause-keeps
write_round-requires-clause-keeps g c κs within =
    round_kept g.B.Behaviour.valid g.B.Behaviour.carried g.B.Behaviour.reaction (key_of c.args.table.now.turns.now).value c.requires.run c.args.table.now.number (view_of c.args.pass.now) (record { place = c.args.own.now.place; value = c.value-3.result.now }) (record { place = c.args.barrier.now.place; value = c.report_share.new.barrier })
    (at_reported g.B.Behaviour.valid g.B.Behaviour.carried g.B.Behaviour.reaction (key_of c.args.table.now.turns.now).value c.requires.run c.args.table.now.number (view_of c.args.pass.now) c.args.own.now c.args.barrier.now c.requires.at
    c.value.result.now c.value.ensures.value c.barrier.result.now (sym c.value-2.ensures.value ∙ c.barrier.ensures) c.enter_share.new.own c.enter_share.ensures.entered
    c.timeline.result.now (sym c.value-3.ensures.value ∙ c.timeline.ensures) c.value-4.result.now (c.value-4.ensures.value ∙ c.value-2.ensures.value)
    c.report_share.new.barrier c.report_share.ensures.reported c.value-3.result.now c.report_share.new.barrier c.value-3.ensures.value refl)
    c.value-5.result.now c.value-5.ensures.value
    c.cross_share-crossed.result c.cross_share-crossed.new.barrier c.cross_share-crossed.ensures.crossed
    c.barrier-then-crossed.result.now (sym c.value-then-crossed.ensures.value ∙ c.barrier-then-crossed.ensures) c.round.result c.round.ensures

pub returns-then-crossed-clause-at : goal.returns-then-crossed-clause-at
returns-then-crossed-clause-at g c =
    at_crossed g.B.Behaviour.valid g.B.Behaviour.carried g.B.Behaviour.reaction (key_of c.args.table.now.turns.now).value c.requires.run c.args.table.now.number (view_of c.args.pass.now) (record { place = c.args.own.now.place; value = c.value-3.result.now }) (record { place = c.args.barrier.now.place; value = c.report_share.new.barrier })
    (at_reported g.B.Behaviour.valid g.B.Behaviour.carried g.B.Behaviour.reaction (key_of c.args.table.now.turns.now).value c.requires.run c.args.table.now.number (view_of c.args.pass.now) c.args.own.now c.args.barrier.now c.requires.at
    c.value.result.now c.value.ensures.value c.barrier.result.now (sym c.value-2.ensures.value ∙ c.barrier.ensures) c.enter_share.new.own c.enter_share.ensures.entered
    c.timeline.result.now (sym c.value-3.ensures.value ∙ c.timeline.ensures) c.value-4.result.now (c.value-4.ensures.value ∙ c.value-2.ensures.value)
    c.report_share.new.barrier c.report_share.ensures.reported c.value-3.result.now c.report_share.new.barrier c.value-3.ensures.value refl)
    c.value-5.result.now c.value-5.ensures.value
    c.cross_share-crossed.result c.cross_share-crossed.new.barrier c.cross_share-crossed.ensures.crossed
    c.barrier-then-crossed.result.now (sym c.value-then-crossed.ensures.value ∙ c.barrier-then-crossed.ensures) c.round.result c.round.ensures
    (view_of c.write_round.new.pass) c.write_round.ensures.view c.write_round.ensures.round c.write_round.ensures.others
    c.value-3.result.now c.value-then-crossed.result.now refl c.value-then-crossed.ensures.value

pub returns-then-crossed-clause-done : goal.returns-then-crossed-clause-done
returns-then-crossed-clause-done g c =
    meetings_asked c.args.table.now.number c.args.hand.now c.enter_share.new.hand c.report_share.new.hand c.cross_share-crossed.new.hand c.enter_share.ensures.asked c.enter_share.ensures.done
    c.report_share.ensures.asked c.in_ok-report_share.ensures.done c.cross_share-crossed.ensures.asked c.cross_share-crossed.ensures.done

pub returns-else-crossed-clause-at : goal.returns-else-crossed-clause-at
returns-else-crossed-clause-at g c =
    at_same g.B.Behaviour.valid g.B.Behaviour.carried g.B.Behaviour.reaction (key_of c.args.table.now.turns.now).value c.requires.run c.args.table.now.number (view_of c.args.pass.now) (record { place = c.args.own.now.place; value = c.value-3.result.now }) (record { place = c.args.barrier.now.place; value = c.report_share.new.barrier })
    (at_reported g.B.Behaviour.valid g.B.Behaviour.carried g.B.Behaviour.reaction (key_of c.args.table.now.turns.now).value c.requires.run c.args.table.now.number (view_of c.args.pass.now) c.args.own.now c.args.barrier.now c.requires.at
    c.value.result.now c.value.ensures.value c.barrier.result.now (sym c.value-2.ensures.value ∙ c.barrier.ensures) c.enter_share.new.own c.enter_share.ensures.entered
    c.timeline.result.now (sym c.value-3.ensures.value ∙ c.timeline.ensures) c.value-4.result.now (c.value-4.ensures.value ∙ c.value-2.ensures.value)
    c.report_share.new.barrier c.report_share.ensures.reported c.value-3.result.now c.report_share.new.barrier c.value-3.ensures.value refl)
    c.value-5.result.now c.value-5.ensures.value
    c.cross_share-crossed.result c.cross_share-crossed.new.barrier c.cross_share-crossed.ensures.crossed
    c.if-crossed.false c.value-3.result.now c.cross_share-crossed.new.barrier refl refl

pub returns-else-crossed-clause-done : goal.returns-else-crossed-clause-done
returns-else-crossed-clause-done g c =
    meetings_asked c.args.table.now.number c.args.hand.now c.enter_share.new.hand c.report_share.new.hand c.cross_share-crossed.new.hand c.enter_share.ensures.asked c.enter_share.ensures.done
    c.report_share.ensures.asked c.in_ok-report_share.ensures.done c.cross_share-crossed.ensures.asked c.cross_share-crossed.ensures.done

pub returns-in_err-report_share-clause-told : goal.returns-in_err-report_share-clause-told
returns-in_err-report_share-clause-told g c = told_then c.args.hand.now c.enter_share.new.hand c.report_share.new.hand c.enter_share.ensures.told c.report_share.ensures.told

pub returns-then-crossed-clause-told : goal.returns-then-crossed-clause-told
returns-then-crossed-clause-told g c = told_three c.args.hand.now c.enter_share.new.hand c.report_share.new.hand c.cross_share-crossed.new.hand c.enter_share.ensures.told c.report_share.ensures.told c.cross_share-crossed.ensures.told

pub returns-else-crossed-clause-told : goal.returns-else-crossed-clause-told
returns-else-crossed-clause-told g c = told_three c.args.hand.now c.enter_share.new.hand c.report_share.new.hand c.cross_share-crossed.new.hand c.enter_share.ensures.told c.report_share.ensures.told c.cross_share-crossed.ensures.told

pub returns-in_err-report_share-clause-steps : goal.returns-in_err-report_share-clause-steps
returns-in_err-report_share-clause-steps g c = entered_reported (key_of c.args.table.now.turns.now).value c.args.table.now.number c.args.hand.now c.enter_share.new.hand c.report_share.new.hand c.enter_share.ensures.asked c.report_share.ensures.asked

pub returns-then-crossed-clause-steps : goal.returns-then-crossed-clause-steps
returns-then-crossed-clause-steps g c = entered_crossed (key_of c.args.table.now.turns.now).value c.args.table.now.number c.args.hand.now c.enter_share.new.hand c.report_share.new.hand c.cross_share-crossed.new.hand c.enter_share.ensures.asked c.report_share.ensures.asked c.cross_share-crossed.ensures.asked

pub returns-else-crossed-clause-steps : goal.returns-else-crossed-clause-steps
returns-else-crossed-clause-steps g c = entered_crossed (key_of c.args.table.now.turns.now).value c.args.table.now.number c.args.hand.now c.enter_share.new.hand c.report_share.new.hand c.cross_share-crossed.new.hand c.enter_share.ensures.asked c.report_share.ensures.asked c.cross_share-crossed.ensures.asked
