use Rattle.dml_tree.proofs.OneMeaning as proof
use Rattle.dml_tree.proofs.laws.one_meaning.Goals as goal

pub returns : goal.returns
returns c = λ file bytes meaning other h g. proof.one_meaning file bytes meaning other h g
