use Rattle.ssf_model.proofs.Places.{has_write, is_written}
use Rattle.run_laws.proofs.laws.writes_have_places.Goals as goal

pub returns-clause-place : goal.returns-clause-place
returns-clause-place g c = λ s. has_write s

pub returns-clause-written : goal.returns-clause-written
returns-clause-written g c = λ s. is_written s
