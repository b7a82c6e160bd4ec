use Rattle.tcp_rules.proofs.Lasting.{irs_accepted, irs_segment, irs_timeout}
use Rattle.tcp_rules.proofs.laws.servers_keep_their_first_position.Goals as goal

pub returns-clause-accepting : goal.returns-clause-accepting
returns-clause-accepting c = irs_accepted

pub returns-clause-segment : goal.returns-clause-segment
returns-clause-segment c = irs_segment

pub returns-clause-timeout : goal.returns-clause-timeout
returns-clause-timeout c = irs_timeout
