use Rattle.transfer_laws.proofs.Speaking.{sends_between_ends}
use Rattle.transfer_laws.proofs.laws.hosts_send_between_the_ends_of_their_sessions.Goals as goal

pub returns : goal.returns
returns c = sends_between_ends
