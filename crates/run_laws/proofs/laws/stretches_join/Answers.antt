use Rattle.ssf_model.proofs.Places.{stretch_joined}
use Rattle.run_laws.proofs.laws.stretches_join.Goals as goal

pub returns : goal.returns
returns g c = λ s. stretch_joined s
