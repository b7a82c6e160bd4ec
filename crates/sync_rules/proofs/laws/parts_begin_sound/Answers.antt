use Rattle.sync_rules.proofs.Wholes.{first_line_is_sound, first_line_is_counted, first_core_is_sound}
use Rattle.sync_rules.proofs.laws.parts_begin_sound.Goals as goal

pub returns-clause-line : goal.returns-clause-line
returns-clause-line g c = λ s sh. first_line_is_sound s sh

pub returns-clause-counted : goal.returns-clause-counted
returns-clause-counted g c = λ s sh. first_line_is_counted s sh

pub returns-clause-all : goal.returns-clause-all
returns-clause-all g c = λ s sh. first_core_is_sound s sh
