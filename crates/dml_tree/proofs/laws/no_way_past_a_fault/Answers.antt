use Rattle.dml_tree.proofs.Beginnings as proof
use Rattle.dml_tree.proofs.laws.no_way_past_a_fault.Goals as goal

pub returns : goal.returns
returns c = λ file bytes before token after opened wanted fault tree begins refused spells. proof.no_way_on file bytes before token after opened wanted fault tree begins refused spells
