use Rattle.run_laws.proofs.Histories.{run_is_all, line_is_part, below_is_part}
use Rattle.run_laws.proofs.laws.histories_are_of_the_run.Goals as goal

pub returns-clause-run : goal.returns-clause-run
returns-clause-run g c = λ b plan until kept line net. run_is_all (g.B.Behaviour.reaction b) plan until kept line net

pub returns-clause-line : goal.returns-clause-line
returns-clause-line g c = λ b plan until kept line net. line_is_part (g.B.Behaviour.reaction b) plan until kept line net

pub returns-clause-below : goal.returns-clause-below
returns-clause-below g c = λ b plan until kept line net. below_is_part (g.B.Behaviour.reaction b) plan until kept line net
