use Rattle.sync_core.proofs.Meeting.{may_step}
use Rattle.sync_core.proofs.core_parts.Core.enabled.Goals as goal

pub listed-requires-clause-may : goal.listed-requires-clause-may
listed-requires-clause-may g c κs within =
    let b = c.args.self.now.behaviour in
    may_step (g.B.Behaviour.reaction b) (g.B.Behaviour.valid b) (g.B.Behaviour.carried b) (g.met.B.Behaviour.sound b) (g.met.B.Behaviour.modest b) c.args.self.now c.requires.run
