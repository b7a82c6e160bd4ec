use Rattle.plan_shares.proofs.InOrder.{entity_at}
use Rattle.plan_shares.proofs.laws.entities_have_one_share.Goals as goal

pub returns : goal.returns
returns g c = λ plan lines threshold i k. entity_at lines i k plan.entities
