use Rattle.host_rules.proofs.Sound.{host_sound}
use Rattle.host_rules.proofs.Modest.{host_modest}
use Rattle.host_rules.proofs.laws.hosts_are_behaviours.Goals as goal

pub returns-clause-sound : goal.returns-clause-sound
returns-clause-sound c = host_sound

pub returns-clause-modest : goal.returns-clause-modest
returns-clause-modest c = host_modest
