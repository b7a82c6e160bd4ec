use Rattle.std.proofs.Common.{◌≤◌, suc, sym, ◌∙◌, subst}
use Rattle.std.proofs.lemmas.Result.{on_ok_weaker}
use Rattle.turn_table.specs.Passes.{view_of, note_of}
use Rattle.turn_table.specs.Turned.{key_of}
use Rattle.share_rules.specs.Places.{done_word}
use Rattle.worker_turns.proofs.Executing.{may_execute, done_rises, has_executed, runs_asked}
use Rattle.worker_turns.proofs.task.execute.Goals as goal

pub execute_share-executed-requires-after_bounds : goal.execute_share-executed-requires-after_bounds
execute_share-executed-requires-after_bounds g c κs within =
    may_execute g.B.Behaviour.valid g.B.Behaviour.carried g.B.Behaviour.reaction (key_of c.args.table.now.turns.now).value c.requires.run c.args.behaviour.now c.requires.behaviour c.args.table.now.number (view_of c.args.pass.now) c.args.own.now c.requires.has c.value.result.now c.value.ensures.value

pub write_done-requires-clause-rises : goal.write_done-requires-clause-rises
write_done-requires-clause-rises g c κs within =
    subst (λ n. note_of c.args.pass.now (done_word (key_of c.args.table.now.turns.now).value c.args.table.now.number) ≤ suc n) (sym c.executed.ensures)
    (done_rises g.B.Behaviour.valid g.B.Behaviour.carried g.B.Behaviour.reaction (key_of c.args.table.now.turns.now).value c.requires.run c.args.behaviour.now c.requires.behaviour c.args.table.now.number (view_of c.args.pass.now) c.args.own.now c.requires.has c.value.result.now c.value.ensures.value
    c.execute_share-executed.new.own c.execute_share-executed.ensures.executed c.timeline.result.now (sym c.value-2.ensures.value ∙ c.timeline.ensures))

pub returns-clause-has : goal.returns-clause-has
returns-clause-has g c =
    has_executed g.B.Behaviour.valid g.B.Behaviour.carried g.B.Behaviour.reaction (key_of c.args.table.now.turns.now).value c.requires.run c.args.behaviour.now c.requires.behaviour c.args.table.now.number (view_of c.args.pass.now) c.args.own.now c.requires.has c.value.result.now c.value.ensures.value
    c.execute_share-executed.new.own c.execute_share-executed.ensures.executed c.value-2.result.now c.value-2.ensures.value c.timeline.result.now (sym c.value-2.ensures.value ∙ c.timeline.ensures) c.executed.result c.executed.ensures (view_of c.write_done.new.pass) c.write_done.ensures.view c.write_done.ensures.so

pub returns-clause-done : goal.returns-clause-done
returns-clause-done g c =
    on_ok_weaker c.execute_share-executed.result (runs_asked c.args.left.now c.execute_share-executed.new.left c.args.table.now.number c.args.hand.now c.execute_share-executed.new.hand c.execute_share-executed.ensures.asked)
    c.execute_share-executed.ensures.done
