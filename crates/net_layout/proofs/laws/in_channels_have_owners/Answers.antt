use Rattle.net_layout.proofs.HostPorts.{owners_port, owners_poke, length-owners_before, length-owners_of, ins_of-range}
use Rattle.net_layout.proofs.laws.in_channels_have_owners.Goals as goal

pub returns-clause-ports : goal.returns-clause-ports
returns-clause-ports c = λ network i is. owners_port network is i

pub returns-clause-pokes : goal.returns-clause-pokes
returns-clause-pokes c = owners_poke

pub returns-clause-before : goal.returns-clause-before
returns-clause-before c = length-owners_before

pub returns-clause-all : goal.returns-clause-all
returns-clause-all c = length-owners_of

pub returns-clause-ins : goal.returns-clause-ins
returns-clause-ins c = λ network h is. ins_of-range network is h
