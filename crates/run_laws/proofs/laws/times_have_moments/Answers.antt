use Rattle.run_laws.proofs.Histories.{moment_of}
use Rattle.run_laws.proofs.laws.times_have_moments.Goals as goal

pub returns : goal.returns
returns g c = λ b plan until kept line net. moment_of (g.B.Behaviour.reaction b) plan until kept line net
