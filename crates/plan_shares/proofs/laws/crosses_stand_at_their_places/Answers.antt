use Rattle.plan_shares.proofs.Crossing.{stands_at}
use Rattle.plan_shares.proofs.InOrder.{crosses_rise}
use Rattle.plan_shares.proofs.laws.crosses_stand_at_their_places.Goals as goal

pub returns-clause-rising : goal.returns-clause-rising
returns-clause-rising g c = λ plan lines threshold wired. crosses_rise plan wired lines threshold

pub returns-clause-places : goal.returns-clause-places
returns-clause-places g c = stands_at
