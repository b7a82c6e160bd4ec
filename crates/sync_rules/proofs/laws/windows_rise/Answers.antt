use Rattle.sync_rules.proofs.Windows.{window_later, window_most, window_one, window_before, written_before}
use Rattle.sync_rules.proofs.laws.windows_rise.Goals as goal

pub returns-clause-rises : goal.returns-clause-rises
returns-clause-rises g c = λ s sh. window_later s sh

pub returns-clause-most : goal.returns-clause-most
returns-clause-most g c = λ s sh. window_most s sh

pub returns-clause-one : goal.returns-clause-one
returns-clause-one g c = λ s sh. window_one s sh

pub returns-clause-before : goal.returns-clause-before
returns-clause-before g c = λ s sh. window_before s sh

pub returns-clause-written : goal.returns-clause-written
returns-clause-written g c = λ s sh. written_before s sh
