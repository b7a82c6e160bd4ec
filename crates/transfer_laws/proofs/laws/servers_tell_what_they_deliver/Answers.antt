use Rattle.transfer_laws.proofs.Stretches.{tells_accepted, tells_segment, tells_timeout}
use Rattle.transfer_laws.proofs.laws.servers_tell_what_they_deliver.Goals as goal

pub returns-clause-accepting : goal.returns-clause-accepting
returns-clause-accepting c = tells_accepted

pub returns-clause-segment : goal.returns-clause-segment
returns-clause-segment c = tells_segment

pub returns-clause-timeout : goal.returns-clause-timeout
returns-clause-timeout c = tells_timeout
