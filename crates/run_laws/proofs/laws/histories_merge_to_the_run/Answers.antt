use Rattle.run_laws.proofs.Histories.{merged_is_run}
use Rattle.run_laws.proofs.laws.histories_merge_to_the_run.Goals as goal

pub returns : goal.returns
returns g c = λ b plan until kept line net. merged_is_run (g.B.Behaviour.reaction b) plan until kept line net
