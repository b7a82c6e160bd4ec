use Rattle.net_plan.proofs.Refusing.{valid_hosts, plans_one, mappings_are}
use Rattle.net_plan.proofs.laws.networks_have_plans.Goals as goal

pub returns-clause-valid : goal.returns-clause-valid
returns-clause-valid g c = λ behaviour network tables. valid_hosts network tables behaviour

pub returns-clause-one : goal.returns-clause-one
returns-clause-one g c = plans_one

pub returns-clause-mappings : goal.returns-clause-mappings
returns-clause-mappings g c = mappings_are
