use Rattle.run_laws.proofs.Opens.{fits_open}
use Rattle.run_laws.proofs.laws.fitting_plans_open.Goals as goal

pub returns : goal.returns
returns g c = λ b plan fits. fits_open (g.B.Behaviour.valid b) (g.B.Behaviour.carried b) plan fits
