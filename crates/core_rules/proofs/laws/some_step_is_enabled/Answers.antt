use Rattle.core_rules.proofs.Reading.{goes_on}
use Rattle.core_rules.proofs.laws.some_step_is_enabled.Goals as goal

pub returns : goal.returns
returns g c = λ b plan until kept line net fits in_time core at v on sound runs.
    goes_on (g.B.Behaviour.reaction b) (g.B.Behaviour.valid b) (g.B.Behaviour.carried b) (g.met.B.Behaviour.sound b) (g.met.B.Behaviour.modest b) plan until in_time fits kept line net core at v on sound runs
