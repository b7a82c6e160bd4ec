use Rattle.worker_pool.proofs.Onward.{tries_ins, stopped_ins, carried_by_steps}
use Rattle.worker_pool.proofs.ending.drive_on.Goals as goal

pub returns-in-Ok-Finished-clause-on : goal.returns-in-Ok-Finished-clause-on
returns-in-Ok-Finished-clause-on g c =
    let b = c.args.core.now.behaviour in
    let d = c.in-Ok-Finished.ensures.driven in
    carried_by_steps (g.B.Behaviour.reaction b) (g.B.Behaviour.valid b) (g.B.Behaviour.carried b) (g.met.B.Behaviour.sound b) (g.met.B.Behaviour.modest b) c.args.core.now c.drive.new.self c.requires.run c.drive.ensures.steps c.drive.ensures.onward
    (tries_ins _ _ d.0 _ c.args.core.now c.drive.new.self d.1)

pub returns-in-Ok-OverBudget-clause-on : goal.returns-in-Ok-OverBudget-clause-on
returns-in-Ok-OverBudget-clause-on g c =
    let b = c.args.core.now.behaviour in
    let d = c.in-Ok-OverBudget.ensures.driven in
    carried_by_steps (g.B.Behaviour.reaction b) (g.B.Behaviour.valid b) (g.B.Behaviour.carried b) (g.met.B.Behaviour.sound b) (g.met.B.Behaviour.modest b) c.args.core.now c.drive.new.self c.requires.run c.drive.ensures.steps c.drive.ensures.onward
    (tries_ins _ _ d.0 _ c.args.core.now c.drive.new.self d.1)

pub returns-in-Ok-OverBudget-clause-end : goal.returns-in-Ok-OverBudget-clause-end
returns-in-Ok-OverBudget-clause-end g c = λ last. (c.in-Ok-OverBudget.ensures.over c.in-Ok-OverBudget.timeline).0 c.in-Ok-OverBudget.field-0-is

pub returns-in-Err-clause-on : goal.returns-in-Err-clause-on
returns-in-Err-clause-on g c =
    let b = c.args.core.now.behaviour in
    carried_by_steps (g.B.Behaviour.reaction b) (g.B.Behaviour.valid b) (g.B.Behaviour.carried b) (g.met.B.Behaviour.sound b) (g.met.B.Behaviour.modest b) c.args.core.now c.drive.new.self c.requires.run c.drive.ensures.steps c.drive.ensures.onward
    (stopped_ins _ _ _ c.args.core.now c.drive.new.self c.in-Err.ensures.stopped)
