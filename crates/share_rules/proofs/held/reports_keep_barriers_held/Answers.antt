use Rattle.share_rules.proofs.Barriers.{reported_held}
use Rattle.share_rules.proofs.held.reports_keep_barriers_held.Goals as goal

pub returns : goal.returns
returns g c = λ b key m i t bar held barrier marked may. reported_held (g.B.Behaviour.valid b) (g.B.Behaviour.carried b) (g.B.Behaviour.reaction b) (g.met.B.Behaviour.sound b) (g.met.B.Behaviour.modest b) key m i t bar held barrier marked may
