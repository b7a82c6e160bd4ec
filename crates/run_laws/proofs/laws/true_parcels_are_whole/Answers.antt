use Rattle.ssf_model.proofs.Places.{parcel_whole}
use Rattle.run_laws.proofs.laws.true_parcels_are_whole.Goals as goal

pub returns : goal.returns
returns g c = λ s. parcel_whole s
