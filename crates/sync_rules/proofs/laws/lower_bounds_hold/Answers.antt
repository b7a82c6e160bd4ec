use Rattle.sync_rules.proofs.Bounds.{not_early, low_done}
use Rattle.sync_rules.proofs.laws.lower_bounds_hold.Goals as goal

pub returns-clause-early : goal.returns-clause-early
returns-clause-early g c = λ s sh. not_early s sh

pub returns-clause-done : goal.returns-clause-done
returns-clause-done g c = λ s sh. low_done s sh
