use Rattle.core_traces.proofs.Ends.{one_windows, one_budget, not_few, few_in_budget}
use Rattle.core_traces.proofs.laws.runs_decide_their_ends.Goals as goal

pub returns-clause-windows : goal.returns-clause-windows
returns-clause-windows g c = λ s sh count last many end p q. one_windows s sh count last many end p q

pub returns-clause-budget : goal.returns-clause-budget
returns-clause-budget g c = λ s budget i j f h p q. one_budget s budget i j f h p q

pub returns-clause-few : goal.returns-clause-few
returns-clause-few g c = λ s budget i f few p. not_few s budget i f few p

pub returns-clause-within : goal.returns-clause-within
returns-clause-within g c = λ s budget f few. few_in_budget s budget f few
