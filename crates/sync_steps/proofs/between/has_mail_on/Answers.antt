use Rattle.sync_steps.proofs.Taking.{contained}
use Rattle.sync_steps.proofs.between.has_mail_on.Goals as goal

pub posted-requires : goal.posted-requires
posted-requires g c = contained c.args.mail.now.channels c.args.channel c.requires.known

pub appointment-requires : goal.appointment-requires
appointment-requires g c = contained c.args.mail.now.channels c.args.channel c.requires.known
