use Rattle.run_health.proofs.Staying.{valid_along}
use Rattle.run_health.proofs.laws.runs_stay_valid.Goals as goal

pub returns : goal.returns
returns g c = λ b plan until kept line net fits in_time.
    valid_along (g.B.Behaviour.reaction b) (g.B.Behaviour.valid b) (g.B.Behaviour.carried b) (g.met.B.Behaviour.sound b) (g.met.B.Behaviour.modest b) plan until in_time fits kept
