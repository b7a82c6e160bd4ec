use Rattle.appointments.proofs.Sound.{take_keeps_sound}
use Rattle.appointments.proofs.laws.takes_keep_mails_sound.Goals as goal

pub returns-clause-mail : goal.returns-clause-mail
returns-clause-mail g c = take_keeps_sound
