use Rattle.run_health.proofs.Along.{healthy_along}
use Rattle.run_health.proofs.laws.runs_stay_healthy.Goals as goal

pub returns : goal.returns
returns g c = λ b plan until kept line net fits in_time aligned.
    healthy_along (g.B.Behaviour.reaction b) (g.B.Behaviour.valid b) (g.B.Behaviour.carried b) (g.met.B.Behaviour.sound b) (g.met.B.Behaviour.modest b) plan until in_time fits kept line aligned
