use Rattle.sync_rules.proofs.Wholes.{budget_is}
use Rattle.sync_rules.proofs.laws.budgets_end_at_the_least_time.Goals as goal

pub returns-clause-event : goal.returns-clause-event
returns-clause-event g c = λ s sh v t sound budget counted i ends. (budget_is s sh v t sound budget counted i ends).0

pub returns-clause-bound : goal.returns-clause-bound
returns-clause-bound g c = λ s sh v t sound budget counted i ends. (budget_is s sh v t sound budget counted i ends).1

pub returns-clause-least : goal.returns-clause-least
returns-clause-least g c = λ s sh v t sound budget counted i ends. (budget_is s sh v t sound budget counted i ends).2
