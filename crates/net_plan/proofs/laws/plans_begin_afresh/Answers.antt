use Rattle.net_plan.proofs.Beginning.{none_begun, starts_pend}
use Rattle.net_plan.proofs.laws.plans_begin_afresh.Goals as goal

pub returns-clause-sessions : goal.returns-clause-sessions
returns-clause-sessions g c = none_begun

pub returns-clause-events : goal.returns-clause-events
returns-clause-events g c = starts_pend
