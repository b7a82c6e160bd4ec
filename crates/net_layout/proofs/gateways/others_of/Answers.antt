use Rattle.std.proofs.Common.{◌<◌, length}
use Rattle.net_layout.proofs.Finding.{All_remove}
use Rattle.net_layout.proofs.gateways.others_of.Goals as goal

pub returns-in_ok-others-in-Some-clause-there : goal.returns-in_ok-others-in-Some-clause-there
returns-in_ok-others-in-Some-clause-there c =
    rw c.in_ok-others-in-Some.ensures (All_remove (λ i. i < length c.args.network.now.interfaces) c.attached_of.result.now c.in-Some.at.1 c.attached_of.ensures.there)
