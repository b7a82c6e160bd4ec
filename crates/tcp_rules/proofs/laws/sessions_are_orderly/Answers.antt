use Rattle.tcp_rules.proofs.Sessions.{connecting_orderly, accepting_orderly, segment_orderly, timeout_orderly}
use Rattle.tcp_rules.proofs.laws.sessions_are_orderly.Goals as goal

pub returns-clause-connecting : goal.returns-clause-connecting
returns-clause-connecting c = connecting_orderly

pub returns-clause-accepting : goal.returns-clause-accepting
returns-clause-accepting c = accepting_orderly

pub returns-clause-segment : goal.returns-clause-segment
returns-clause-segment c = segment_orderly

pub returns-clause-timeout : goal.returns-clause-timeout
returns-clause-timeout c = timeout_orderly
