use Rattle.run_health.proofs.OfFitting.{follows, event_follows}
use Rattle.run_health.proofs.laws.writes_follow_mappings.Goals as goal

pub returns-clause-writes : goal.returns-clause-writes
returns-clause-writes g c = λ b plan until kept line net fits in_time n e d is a.
    follows (g.B.Behaviour.reaction b) (g.B.Behaviour.valid b) (g.B.Behaviour.carried b) (g.met.B.Behaviour.sound b) (g.met.B.Behaviour.modest b) plan until in_time fits kept n e is d a

pub returns-clause-events : goal.returns-clause-events
returns-clause-events g c = λ b plan until kept line net fits in_time.
    event_follows (g.B.Behaviour.reaction b) (g.B.Behaviour.valid b) (g.B.Behaviour.carried b) (g.met.B.Behaviour.sound b) (g.met.B.Behaviour.modest b) plan until in_time fits kept
