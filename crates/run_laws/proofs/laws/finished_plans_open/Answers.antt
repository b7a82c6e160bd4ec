use Rattle.run_laws.proofs.Opens.{planned_open}
use Rattle.run_laws.proofs.laws.finished_plans_open.Goals as goal

pub returns : goal.returns
returns g c = λ d. planned_open d
