use Rattle.host_rules.proofs.Finding.{opened_few}
use Rattle.host_rules.proofs.Giving.{sessions_few}
use Rattle.host_rules.proofs.laws.sessions_are_few.Goals as goal

pub returns-clause-opened : goal.returns-clause-opened
returns-clause-opened c = opened_few

pub returns-clause-sessions : goal.returns-clause-sessions
returns-clause-sessions c = sessions_few
