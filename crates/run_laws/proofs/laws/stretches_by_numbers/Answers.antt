use Rattle.ssf_model.specs.Scene.{scene_of}
use Rattle.ssf_model.proofs.Places.{stretch_length}
use Rattle.run_laws.proofs.ByPlace.{stretch_tells, stretch_told}
use Rattle.run_laws.proofs.laws.stretches_by_numbers.Goals as goal

pub returns-clause-end : goal.returns-clause-end
returns-clause-end g c = λ b plan until kept line net. stretch_length (scene_of (g.B.Behaviour.reaction b) plan until kept line net)

pub returns-clause-tells : goal.returns-clause-tells
returns-clause-tells g c = λ b plan until kept line net. stretch_tells (g.B.Behaviour.reaction b) plan until kept line net

pub returns-clause-told : goal.returns-clause-told
returns-clause-told g c = λ b plan until kept line net. stretch_told (g.B.Behaviour.reaction b) plan until kept line net
