use Rattle.alignment.specs.Alignment.{timeline_count}
use Rattle.plan_shares.proofs.Between.{share_in_net}
use Rattle.plan_shares.proofs.laws.shares_have_the_channels_between_timelines.Goals as goal

pub returns : goal.returns
returns g c = λ b plan lines threshold i fits. share_in_net plan fits.wired lines threshold (timeline_count lines) i
