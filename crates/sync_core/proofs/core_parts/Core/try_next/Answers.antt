use Rattle.std.proofs.Common.{drop}
use Rattle.core_rules.proofs.Leads.{none_joins}
use Rattle.sync_core.proofs.Meeting.{may_step}
use Rattle.sync_core.proofs.Onward.{none_onward}
use Rattle.sync_core.proofs.Tries.{next_tried}
use Rattle.sync_core.proofs.core_parts.Core.try_next.Goals as goal

pub next_step-requires-clause-may : goal.next_step-requires-clause-may
next_step-requires-clause-may g c κs within =
    let b = c.args.self.now.behaviour in
    may_step (g.B.Behaviour.reaction b) (g.B.Behaviour.valid b) (g.B.Behaviour.carried b) (g.met.B.Behaviour.sound b) (g.met.B.Behaviour.modest b) c.args.self.now c.requires.run

pub returns-in_default-clause-onward : goal.returns-in_default-clause-onward
returns-in_default-clause-onward g c = none_onward c.args.self.now

pub returns-in_default-clause-steps : goal.returns-in_default-clause-steps
returns-in_default-clause-steps g c =
    let b = c.args.self.now.behaviour in
    none_joins (g.B.Behaviour.reaction b) (g.B.Behaviour.valid b) (g.B.Behaviour.carried b) (g.met.B.Behaviour.sound b) (g.met.B.Behaviour.modest b) c.args.self.now

pub returns-clause-tried : goal.returns-clause-tried
returns-clause-tried g c =
    next_tried (g.B.Behaviour.reaction c.args.self.now.behaviour) (drop c.args.used.now c.args.schedule.now) c.in-Some.step c.args.self.now c.step_on.new.self c.in-Some.ensures.next c.in_ok-step_on.ensures.tried
