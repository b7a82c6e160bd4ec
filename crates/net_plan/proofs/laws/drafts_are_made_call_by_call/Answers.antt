use Rattle.net_plan.proofs.Making.{nothing_made, host_made, wire_made}
use Rattle.net_plan.proofs.laws.drafts_are_made_call_by_call.Goals as goal

pub returns-clause-first : goal.returns-clause-first
returns-clause-first g c = nothing_made

pub returns-clause-host : goal.returns-clause-host
returns-clause-host g c = λ behaviour network tables h is lt. host_made behaviour network tables h is

pub returns-clause-wire : goal.returns-clause-wire
returns-clause-wire g c = wire_made
