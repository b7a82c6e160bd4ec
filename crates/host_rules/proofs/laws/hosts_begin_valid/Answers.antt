use Rattle.host_rules.proofs.Starting.{first_valid, forever_are}
use Rattle.host_rules.proofs.laws.hosts_begin_valid.Goals as goal

pub returns-clause-host : goal.returns-clause-host
returns-clause-host c = first_valid

pub returns-clause-waits : goal.returns-clause-waits
returns-clause-waits c = forever_are
