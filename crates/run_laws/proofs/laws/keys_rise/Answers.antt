use Rattle.run_laws.proofs.OfPlans.{plan_keys_rise}
use Rattle.run_laws.proofs.laws.keys_rise.Goals as goal

pub returns : goal.returns
returns g c = λ b plan until kept line net opens. plan_keys_rise (g.B.Behaviour.reaction b) plan until opens kept
