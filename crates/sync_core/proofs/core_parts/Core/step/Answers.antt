use Rattle.std.proofs.Common.{sym, subst}
use Rattle.core_rules.specs.Cores.{IsCoreOfRun}
use Rattle.sync_core.proofs.Leading.{step_core_steps, step_of_run, step_behaviour}
use Rattle.sync_core.proofs.Meeting.{may_step}
use Rattle.sync_core.proofs.core_parts.Core.step.Goals as goal

pub make-requires-clause-may : goal.make-requires-clause-may
make-requires-clause-may g c κs within =
    let b = c.args.self.now.behaviour in
    may_step (g.B.Behaviour.reaction b) (g.B.Behaviour.valid b) (g.B.Behaviour.carried b) (g.met.B.Behaviour.sound b) (g.met.B.Behaviour.modest b) c.args.self.now c.requires.run

pub returns-clause-steps : goal.returns-clause-steps
returns-clause-steps g c =
    let b = c.args.self.now.behaviour in
    step_core_steps (g.B.Behaviour.reaction b) (g.B.Behaviour.valid b) (g.B.Behaviour.carried b) (g.met.B.Behaviour.sound b) (g.met.B.Behaviour.modest b)
    c.args.step c.args.self.now c.make.new.self c.make.result c.make.ensures.made c.make.ensures.kept c.make.ensures.refused

pub returns-clause-run : goal.returns-clause-run
returns-clause-run g c =
    let b = c.args.self.now.behaviour in
    let same = step_behaviour (g.B.Behaviour.reaction b) c.args.step c.args.self.now c.make.new.self c.make.result c.make.ensures.made c.make.ensures.kept c.make.ensures.refused in
    subst (λ d. IsCoreOfRun (g.B.Behaviour.valid d) (g.B.Behaviour.carried d) (g.B.Behaviour.reaction d) c.make.new.self) (sym same)
    (step_of_run (g.B.Behaviour.reaction b) (g.B.Behaviour.valid b) (g.B.Behaviour.carried b) (g.met.B.Behaviour.sound b) (g.met.B.Behaviour.modest b)
    c.args.step c.args.self.now c.make.new.self c.make.result c.make.ensures.made c.make.ensures.kept c.make.ensures.refused c.requires.run)
