use Rattle.sync_rules.proofs.Stuck.{never_stuck}
use Rattle.sync_rules.proofs.laws.steps_go_on.Goals as goal

pub returns : goal.returns
returns g c = λ s sh. never_stuck s sh
