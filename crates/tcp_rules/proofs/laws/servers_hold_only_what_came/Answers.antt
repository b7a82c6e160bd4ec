use Rattle.tcp_rules.proofs.Receiving.{holds_only_more, only_segment, only_timeout}
use Rattle.tcp_rules.proofs.Sessions.{accepted_holds_none}
use Rattle.tcp_rules.proofs.laws.servers_hold_only_what_came.Goals as goal

pub returns-clause-accepting : goal.returns-clause-accepting
returns-clause-accepting c = accepted_holds_none

pub returns-clause-segment : goal.returns-clause-segment
returns-clause-segment c = only_segment

pub returns-clause-timeout : goal.returns-clause-timeout
returns-clause-timeout c = only_timeout

pub returns-clause-more : goal.returns-clause-more
returns-clause-more c = holds_only_more
