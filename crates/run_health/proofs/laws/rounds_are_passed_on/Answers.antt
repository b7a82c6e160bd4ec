use Rattle.run_health.proofs.OfFitting.{passed_rounds}
use Rattle.run_health.proofs.laws.rounds_are_passed_on.Goals as goal

pub returns : goal.returns
returns g c = λ b plan until kept line net fits in_time.
    passed_rounds (g.B.Behaviour.reaction b) (g.B.Behaviour.valid b) (g.B.Behaviour.carried b) (g.met.B.Behaviour.sound b) (g.met.B.Behaviour.modest b) plan until in_time fits kept
