use Rattle.network_transfers.proofs.Addressed.{one_host}
use Rattle.network_transfers.proofs.laws.addresses_have_one_host.Goals as goal

pub returns : goal.returns
returns c = one_host
