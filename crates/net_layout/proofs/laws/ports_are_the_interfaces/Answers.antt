use Rattle.net_layout.proofs.HostPorts.{ports_within, ports_all}
use Rattle.net_layout.proofs.laws.ports_are_the_interfaces.Goals as goal

pub returns-clause-own : goal.returns-clause-own
returns-clause-own c = λ network h i is. ports_within network is h i

pub returns-clause-all : goal.returns-clause-all
returns-clause-all c = λ network i is. ports_all network is i
