use Rattle.core_traces.proofs.Ends.{safe_in_budget, budget_ends}
use Rattle.core_traces.proofs.laws.budgets_end_in_the_run.Goals as goal

pub returns-clause-within : goal.returns-clause-within
returns-clause-within g c = λ b plan until kept line net fits in_time budget core from q.
    safe_in_budget (g.B.Behaviour.reaction b) (g.B.Behaviour.valid b) (g.B.Behaviour.carried b) (g.met.B.Behaviour.sound b) (g.met.B.Behaviour.modest b) plan until in_time fits kept line net budget core from q

pub returns-clause-ends : goal.returns-clause-ends
returns-clause-ends g c = λ b plan until kept line net fits in_time budget core from q i ends.
    budget_ends (g.B.Behaviour.reaction b) (g.B.Behaviour.valid b) (g.B.Behaviour.carried b) (g.met.B.Behaviour.sound b) (g.met.B.Behaviour.modest b) plan until in_time fits kept line net budget core from q i ends
