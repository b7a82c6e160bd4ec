use Rattle.ssf_model.proofs.Places.{one_write}
use Rattle.run_laws.proofs.laws.places_have_one_write.Goals as goal

pub returns : goal.returns
returns g c = λ s. one_write s
