use Rattle.appointments.proofs.Sound.{post_keeps_sound}
use Rattle.appointments.proofs.laws.posts_keep_mails_sound.Goals as goal

pub returns : goal.returns
returns g c = post_keeps_sound
