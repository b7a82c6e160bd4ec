use Rattle.net_hosts.proofs.Addressing.{server_found}
use Rattle.net_hosts.proofs.laws.servers_have_their_addresses.Goals as goal

pub returns : goal.returns
returns c = server_found
