use Rattle.net_hosts.proofs.Addressing.{hosts_differ, above_zero}
use Rattle.net_hosts.proofs.laws.own_addresses_differ.Goals as goal

pub returns-clause-differ : goal.returns-clause-differ
returns-clause-differ c = hosts_differ

pub returns-clause-above_zero : goal.returns-clause-above_zero
returns-clause-above_zero c = above_zero
