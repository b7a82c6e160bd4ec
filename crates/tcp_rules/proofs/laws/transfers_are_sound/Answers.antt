use Rattle.tcp_rules.proofs.Delivering.{transfers_sound}
use Rattle.tcp_rules.proofs.laws.transfers_are_sound.Goals as goal

pub returns : goal.returns
returns c = transfers_sound
