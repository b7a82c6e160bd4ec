use Rattle.run_laws.proofs.Continuing.{looks_alike}
use Rattle.run_laws.proofs.laws.states_keep.Goals as goal

pub returns : goal.returns
returns g c = λ b look keeps plan until kept line net. looks_alike (g.B.Behaviour.reaction b) look keeps plan until kept
