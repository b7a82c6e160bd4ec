use Rattle.sync_rules.proofs.Wholes.{safe_is_done, ended_is_done}
use Rattle.sync_rules.proofs.laws.safe_bounds_hold.Goals as goal

pub returns-clause-safe : goal.returns-clause-safe
returns-clause-safe g c = λ s sh. safe_is_done s sh

pub returns-clause-ended : goal.returns-clause-ended
returns-clause-ended g c = λ s sh. ended_is_done s sh
