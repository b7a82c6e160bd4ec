use Rattle.net_hosts.proofs.Channels.{begins_valid}
use Rattle.net_hosts.proofs.laws.hosts_begin_valid.Goals as goal

pub returns : goal.returns
returns c = λ network tables h is keeps there. begins_valid network is tables h there keeps
