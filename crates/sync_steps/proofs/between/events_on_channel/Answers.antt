use Rattle.sync_steps.proofs.Taking.{contained}
use Rattle.sync_steps.proofs.between.events_on_channel.Goals as goal

pub posted-requires : goal.posted-requires
posted-requires g c = contained c.args.mail.now.channels c.args.channel c.requires.known
