use Rattle.std.proofs.Common.{ap, ◌∙◌, Ok}
use Rattle.sync_core.specs.Driving.{IsOnward}
use Rattle.sync_core.proofs.Leading.{step_leads}
use Rattle.sync_core.proofs.Meeting.{may_step}
use Rattle.sync_core.proofs.Onward.{none_onward, made_onward, spent_onward}
use Rattle.sync_core.proofs.core_parts.Core.step_on.Goals as goal

pub returns-in_err-step-clause-onward : goal.returns-in_err-step-clause-onward
returns-in_err-step-clause-onward g c =
    let r = g.B.Behaviour.reaction c.args.self.now.behaviour in
    step_leads r (λ a b. IsOnward a b) (made_onward r) spent_onward none_onward c.args.step c.args.self.now c.step.new.self c.step.result c.step.ensures.made c.step.ensures.kept c.step.ensures.refused

pub mark_after-requires-clause-may : goal.mark_after-requires-clause-may
mark_after-requires-clause-may g c κs within =
    let after = c.step.new.self in
    let b = after.behaviour in
    may_step (g.B.Behaviour.reaction b) (g.B.Behaviour.valid b) (g.B.Behaviour.carried b) (g.met.B.Behaviour.sound b) (g.met.B.Behaviour.modest b) after c.step.ensures.run

pub mark_after-requires-clause-made : goal.mark_after-requires-clause-made
mark_after-requires-clause-made g c κs within = (c.args.self.now, c.step.ensures.made (c.in_ok-step.was ∙ ap (λ d. Ok d) c.in-Did.is), c.requires.work)

pub returns-in-Did-clause-onward : goal.returns-in-Did-clause-onward
returns-in-Did-clause-onward g c =
    let r = g.B.Behaviour.reaction c.args.self.now.behaviour in
    step_leads r (λ a b. IsOnward a b) (made_onward r) spent_onward none_onward c.args.step c.args.self.now c.step.new.self c.step.result c.step.ensures.made c.step.ensures.kept c.step.ensures.refused
