use Rattle.ssfnet_top.proofs.OneOutcome as proof
use Rattle.ssfnet_top.proofs.laws.outcomes_are_one.Goals as goal

pub returns : goal.returns
returns c = λ files words due other first second. proof.outcomes_agree files words due other first second
