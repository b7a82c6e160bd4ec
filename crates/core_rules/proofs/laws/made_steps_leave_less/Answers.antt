use Rattle.core_rules.proofs.Ending.{made_leaves_less}
use Rattle.core_rules.proofs.laws.made_steps_leave_less.Goals as goal

pub returns : goal.returns
returns g c = λ b step core after run made.
    made_leaves_less (g.B.Behaviour.reaction b) (g.B.Behaviour.valid b) (g.B.Behaviour.carried b) (g.met.B.Behaviour.sound b) (g.met.B.Behaviour.modest b) step core after run made
