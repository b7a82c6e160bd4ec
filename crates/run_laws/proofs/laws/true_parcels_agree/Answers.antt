use Rattle.ssf_model.proofs.Places.{parcels_agree}
use Rattle.run_laws.proofs.laws.true_parcels_agree.Goals as goal

pub returns : goal.returns
returns g c = λ s. parcels_agree s
