use Rattle.run_laws.proofs.ByPlace.{promise_tells, promise_told}
use Rattle.run_laws.proofs.laws.promises_bound_numbers.Goals as goal

pub returns-clause-tells : goal.returns-clause-tells
returns-clause-tells g c = λ b plan until kept line net. promise_tells (g.B.Behaviour.reaction b) plan until kept line net

pub returns-clause-told : goal.returns-clause-told
returns-clause-told g c = λ b plan until kept line net. promise_told (g.B.Behaviour.reaction b) plan until kept line net
