use Rattle.network_transfers.proofs.Fitting.{network_fits}
use Rattle.network_transfers.proofs.laws.plans_fit.Goals as goal

pub returns : goal.returns
returns g c = network_fits
