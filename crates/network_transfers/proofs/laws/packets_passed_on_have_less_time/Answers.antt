use Rattle.network_transfers.proofs.Found.{less_time_passed_on}
use Rattle.network_transfers.proofs.laws.packets_passed_on_have_less_time.Goals as goal

pub returns : goal.returns
returns g c = λ behaviour network plan until kept is none built in_time. less_time_passed_on behaviour network is none plan built until kept in_time
