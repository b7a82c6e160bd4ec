use Rattle.std.proofs.Common.{◌∙◌}
use Rattle.ssfnet_top.proofs.Naming.{host_nets}
use Rattle.ssfnet_top.proofs.model.build_hosts.Goals as goal

pub returns-clause-nets : goal.returns-clause-nets
returns-clause-nets c = host_nets c.in_ok-network.network c.in_ok-built.built c.in_ok-built.ensures.built ∙ c.in_ok-built.ensures.named
