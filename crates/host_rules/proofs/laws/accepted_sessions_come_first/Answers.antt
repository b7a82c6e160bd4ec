use Rattle.host_rules.proofs.Finding.{found_first}
use Rattle.host_rules.proofs.laws.accepted_sessions_come_first.Goals as goal

pub returns : goal.returns
returns c = found_first
