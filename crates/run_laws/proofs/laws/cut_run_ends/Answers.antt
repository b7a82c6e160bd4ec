use Rattle.run_laws.proofs.OfPlans.{plan_cut_ends}
use Rattle.run_laws.proofs.laws.cut_run_ends.Goals as goal

pub returns : goal.returns
returns g c = λ b plan until R fits. plan_cut_ends (g.B.Behaviour.reaction b) plan until fits R
