use Rattle.network_laws.proofs.Lawful.{network_lawful}
use Rattle.network_laws.proofs.laws.networks_are_lawful.Goals as goal

pub returns : goal.returns
returns c = network_lawful
