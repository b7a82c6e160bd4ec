use Rattle.run_laws.proofs.OfPlans.{plan_pending_rises}
use Rattle.run_laws.proofs.laws.pending_rises.Goals as goal

pub returns : goal.returns
returns g c = λ b plan until kept line net opens. plan_pending_rises (g.B.Behaviour.reaction b) plan until opens kept
