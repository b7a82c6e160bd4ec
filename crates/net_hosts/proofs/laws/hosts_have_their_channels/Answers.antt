use Rattle.net_hosts.proofs.Channels.{placed}
use Rattle.net_hosts.proofs.laws.hosts_have_their_channels.Goals as goal

pub returns : goal.returns
returns c = λ network tables h is there. placed network is tables h there
