use Rattle.host_rules.proofs.Sound.{writes_from}
use Rattle.host_rules.proofs.laws.hosts_send_by_their_own_addresses.Goals as goal

pub returns : goal.returns
returns c = writes_from
