use Rattle.net_layout.proofs.HostSessions.{length-clients_of, length-servers_of}
use Rattle.net_layout.proofs.laws.counts_are_of_lists.Goals as goal

pub returns-clause-clients : goal.returns-clause-clients
returns-clause-clients c = length-clients_of

pub returns-clause-servers : goal.returns-clause-servers
returns-clause-servers c = length-servers_of
