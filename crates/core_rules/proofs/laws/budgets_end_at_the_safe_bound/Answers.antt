use Rattle.core_rules.proofs.Reading.{budget_event, budget_bound, budget_least}
use Rattle.core_rules.proofs.laws.budgets_end_at_the_safe_bound.Goals as goal

pub returns-clause-event : goal.returns-clause-event
returns-clause-event g c = λ b plan until kept line net fits in_time core at v on sound i q event rest first.
    budget_event (g.B.Behaviour.reaction b) (g.B.Behaviour.valid b) (g.B.Behaviour.carried b) (g.met.B.Behaviour.sound b) (g.met.B.Behaviour.modest b) plan until in_time fits kept line net core at v on sound i q event rest first

pub returns-clause-bound : goal.returns-clause-bound
returns-clause-bound g c = λ b plan until kept line net fits in_time core at v on sound i q event rest first.
    budget_bound (g.B.Behaviour.reaction b) (g.B.Behaviour.valid b) (g.B.Behaviour.carried b) (g.met.B.Behaviour.sound b) (g.met.B.Behaviour.modest b) plan until in_time fits kept line net core at v on sound i q event rest first

pub returns-clause-least : goal.returns-clause-least
returns-clause-least g c = λ b plan until kept line net fits in_time core at v on sound i q event rest first j k e own.
    budget_least (g.B.Behaviour.reaction b) (g.B.Behaviour.valid b) (g.B.Behaviour.carried b) (g.met.B.Behaviour.sound b) (g.met.B.Behaviour.modest b) plan until in_time fits kept line net core at v on sound i q event rest first j k e own
