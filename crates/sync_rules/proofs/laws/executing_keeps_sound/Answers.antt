use Rattle.sync_rules.proofs.Bounds.{head_next}
use Rattle.sync_rules.proofs.Executes.{executed_is_sound, executed_is_counted}
use Rattle.sync_rules.proofs.Wholes.{execute_low}
use Rattle.sync_rules.proofs.laws.executing_keeps_sound.Goals as goal

pub returns-clause-next : goal.returns-clause-next
returns-clause-next g c = λ s sh. head_next s sh

pub returns-clause-sound : goal.returns-clause-sound
returns-clause-sound g c = λ s sh. executed_is_sound s sh

pub returns-clause-counted : goal.returns-clause-counted
returns-clause-counted g c = λ s sh. executed_is_counted s sh

pub returns-clause-low : goal.returns-clause-low
returns-clause-low g c = λ s sh. execute_low s sh
