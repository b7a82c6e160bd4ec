use Rattle.run_laws.proofs.ByPlace.{one_place}
use Rattle.run_laws.proofs.laws.writes_have_one_place.Goals as goal

pub returns : goal.returns
returns g c = λ b plan until kept line net. one_place (g.B.Behaviour.reaction b) plan until kept line net
