use Rattle.plan_shares.proofs.InOrder.{share_in_order}
use Rattle.plan_shares.proofs.laws.shares_are_parts.Goals as goal

pub returns : goal.returns
returns g c = λ b plan lines threshold i fits. share_in_order plan fits.wired lines fits threshold i
