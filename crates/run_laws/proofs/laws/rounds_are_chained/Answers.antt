use Rattle.run_laws.proofs.OfPlans.{plan_rounds}
use Rattle.run_laws.proofs.laws.rounds_are_chained.Goals as goal

pub returns : goal.returns
returns g c = λ b plan until kept line net opens. plan_rounds (g.B.Behaviour.reaction b) plan until opens kept
