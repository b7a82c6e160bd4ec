use Rattle.net_layout.proofs.Limiting.{keeps_limits}
use Rattle.net_layout.proofs.laws.faultless_networks_keep_limits.Goals as goal

pub returns : goal.returns
returns c = keeps_limits
