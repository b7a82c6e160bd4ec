use Rattle.core_traces.proofs.Records.{below_first, below_long, all_long}
use Rattle.core_traces.proofs.laws.entries_below_are_the_first.Goals as goal

pub returns-clause-first : goal.returns-clause-first
returns-clause-first g c = λ b plan until kept f entries all p q. below_first (g.B.Behaviour.reaction b) plan until kept f entries all p q

pub returns-clause-count : goal.returns-clause-count
returns-clause-count g c = λ b plan until kept f entries p. below_long (g.B.Behaviour.reaction b) plan until kept f entries p

pub returns-clause-count_all : goal.returns-clause-count_all
returns-clause-count_all g c = λ b plan until kept entries p. all_long (g.B.Behaviour.reaction b) plan until kept entries p
