use Rattle.run_laws.proofs.OfPlans.{plan_events_arise}
use Rattle.run_laws.proofs.laws.events_arise.Goals as goal

pub returns : goal.returns
returns g c = λ b plan until kept line net. plan_events_arise (g.B.Behaviour.reaction b) plan until kept
