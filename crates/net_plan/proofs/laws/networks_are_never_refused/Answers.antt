use Rattle.net_plan.proofs.Refusing.{host_fits, in_fits, out_fits, mapping_fits}
use Rattle.net_plan.proofs.laws.networks_are_never_refused.Goals as goal

pub returns-clause-host : goal.returns-clause-host
returns-clause-host g c = λ behaviour network tables. host_fits network tables behaviour

pub returns-clause-in_channels : goal.returns-clause-in_channels
returns-clause-in_channels g c = λ behaviour network tables. in_fits network tables behaviour

pub returns-clause-out_channel : goal.returns-clause-out_channel
returns-clause-out_channel g c = λ behaviour network tables n wire keeps at. out_fits network tables behaviour n wire keeps at

pub returns-clause-mapping : goal.returns-clause-mapping
returns-clause-mapping g c = λ behaviour network tables n wire is keeps at. mapping_fits network tables behaviour n wire keeps at is
