use Rattle.net_layout.proofs.Changes.{are_periods}
use Rattle.net_layout.proofs.laws.periods_are_the_changes.Goals as goal

pub returns : goal.returns
returns c = are_periods
