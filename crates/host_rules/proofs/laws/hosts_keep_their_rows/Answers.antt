use Rattle.host_rules.proofs.Sound.{rows_stay, starts_stay}
use Rattle.host_rules.proofs.laws.hosts_keep_their_rows.Goals as goal

pub returns-clause-rows : goal.returns-clause-rows
returns-clause-rows c = rows_stay

pub returns-clause-starts : goal.returns-clause-starts
returns-clause-starts c = starts_stay
