use Rattle.alignment.proofs.Lawful.{by_least}
use Rattle.alignment.proofs.laws.timelines_go_by_their_least.Goals as goal

pub returns : goal.returns
returns g c = by_least
