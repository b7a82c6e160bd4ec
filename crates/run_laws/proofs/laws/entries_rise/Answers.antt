use Rattle.run_laws.proofs.Histories.{run_rises, line_rises}
use Rattle.run_laws.proofs.laws.entries_rise.Goals as goal

pub returns-clause-run : goal.returns-clause-run
returns-clause-run g c = λ b plan until kept line net. run_rises (g.B.Behaviour.reaction b) plan until kept line net

pub returns-clause-line : goal.returns-clause-line
returns-clause-line g c = λ b plan until kept line net. line_rises (g.B.Behaviour.reaction b) plan until kept line net
