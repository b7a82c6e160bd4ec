use Rattle.ssfnet_top.proofs.OneOutcome as proof
use Rattle.ssfnet_top.proofs.laws.middles_begin_outcomes.Goals as goal

pub returns : goal.returns
returns c = λ files words below text due midway outcome. proof.middles_begin files words below text due midway outcome
