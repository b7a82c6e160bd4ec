use Rattle.run_laws.proofs.ByPlace.{count_after}
use Rattle.run_laws.proofs.laws.channels_count_their_writes.Goals as goal

pub returns : goal.returns
returns g c = λ b plan until kept line net. count_after (g.B.Behaviour.reaction b) plan until kept line net
