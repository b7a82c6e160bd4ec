use Rattle.network_transfers.proofs.Found.{waits_in_network}
use Rattle.network_transfers.proofs.laws.servers_deliver_without_gaps.Goals as goal

pub returns : goal.returns
returns g c = λ behaviour network plan until kept is none built in_time. waits_in_network behaviour network is none plan built until kept in_time
