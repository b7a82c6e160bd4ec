use Rattle.host_rules.proofs.Ends.{sockets_same}
use Rattle.host_rules.proofs.laws.sessions_are_told_apart_by_their_ends.Goals as goal

pub returns : goal.returns
returns c = sockets_same
