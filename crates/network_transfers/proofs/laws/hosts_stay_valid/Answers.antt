use Rattle.run_health.proofs.Staying.{valid_along}
use Rattle.host_rules.specs.Limits.{IsHost}
use Rattle.host_rules.specs.Reacting.{host_reaction}
use Rattle.host_rules.proofs.Sound.{host_sound}
use Rattle.host_rules.proofs.Modest.{host_modest}
use Rattle.ip_layer.specs.Packets.{IsPacket}
use Rattle.network_transfers.proofs.Fitting.{network_fits}
use Rattle.network_transfers.proofs.laws.hosts_stay_valid.Goals as goal

pub returns : goal.returns
returns g c = λ behaviour network plan until kept is none built in_time.
    valid_along host_reaction IsHost IsPacket host_sound host_modest plan until in_time (network_fits behaviour network plan is none built) kept
