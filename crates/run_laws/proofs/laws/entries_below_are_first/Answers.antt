use Rattle.ssf_model.proofs.Histories.{below_after_cut}
use Rattle.run_laws.proofs.laws.entries_below_are_first.Goals as goal

pub returns : goal.returns
returns g c = λ s v n k cut. below_after_cut s v n cut k
