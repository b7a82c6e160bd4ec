use Rattle.run_laws.proofs.ByPlace.{channel_is, write_number}
use Rattle.run_laws.proofs.laws.writes_are_numbered.Goals as goal

pub returns-clause-channel : goal.returns-clause-channel
returns-clause-channel g c = λ b plan until kept line net. channel_is (g.B.Behaviour.reaction b) plan until kept line net

pub returns-clause-number : goal.returns-clause-number
returns-clause-number g c = λ b plan until kept line net. write_number (g.B.Behaviour.reaction b) plan until kept line net
