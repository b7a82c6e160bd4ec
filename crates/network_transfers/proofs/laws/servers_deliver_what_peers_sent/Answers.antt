use Rattle.network_transfers.proofs.Found.{delivers_what_host_sent, syn_of_host}
use Rattle.network_transfers.proofs.laws.servers_deliver_what_peers_sent.Goals as goal

pub returns-clause-delivered : goal.returns-clause-delivered
returns-clause-delivered g c = λ behaviour network plan until kept is none built in_time. delivers_what_host_sent behaviour network is none plan built until kept in_time

pub returns-clause-syn : goal.returns-clause-syn
returns-clause-syn g c = λ behaviour network plan until kept is none built in_time. syn_of_host behaviour network is none plan built until kept in_time
