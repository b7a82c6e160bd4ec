use Rattle.sync_rules.proofs.Writes.{one_place}
use Rattle.sync_rules.proofs.laws.writes_have_one_place.Goals as goal

pub returns : goal.returns
returns g c = λ s sh. one_place s sh
