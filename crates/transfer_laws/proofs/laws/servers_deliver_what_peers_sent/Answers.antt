use Rattle.transfer_laws.proofs.Delivered.{delivers_what_came, begins_with_syn}
use Rattle.transfer_laws.proofs.laws.servers_deliver_what_peers_sent.Goals as goal

pub returns-clause-delivered : goal.returns-clause-delivered
returns-clause-delivered g c = λ plan until kept fits fresh in_time. delivers_what_came plan until in_time fits fresh kept

pub returns-clause-syn : goal.returns-clause-syn
returns-clause-syn g c = λ plan until kept fits fresh in_time. begins_with_syn plan until in_time fits fresh kept
