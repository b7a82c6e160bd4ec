use Rattle.sync_rules.proofs.Enters.{enters_soundly, entered_is_sound}
use Rattle.sync_rules.proofs.Wholes.{enter_low}
use Rattle.sync_rules.proofs.laws.entering_keeps_sound.Goals as goal

pub returns-clause-barrier : goal.returns-clause-barrier
returns-clause-barrier g c = λ s sh. enters_soundly s sh

pub returns-clause-window : goal.returns-clause-window
returns-clause-window g c = λ s sh. entered_is_sound s sh

pub returns-clause-low : goal.returns-clause-low
returns-clause-low g c = λ s sh. enter_low s sh
