use Rattle.sync_rules.proofs.Posts.{none_late, taken_is_sound, taken_mail_is_sound}
use Rattle.sync_rules.proofs.Wholes.{comes_after, take_low}
use Rattle.sync_rules.proofs.laws.taking_keeps_sound.Goals as goal

pub returns-clause-late : goal.returns-clause-late
returns-clause-late g c = λ s sh. none_late s sh

pub returns-clause-after : goal.returns-clause-after
returns-clause-after g c = λ s sh. comes_after s sh

pub returns-clause-line : goal.returns-clause-line
returns-clause-line g c = λ s sh. taken_is_sound s sh

pub returns-clause-mail : goal.returns-clause-mail
returns-clause-mail g c = λ s. taken_mail_is_sound s

pub returns-clause-low : goal.returns-clause-low
returns-clause-low g c = λ s sh. take_low s sh
