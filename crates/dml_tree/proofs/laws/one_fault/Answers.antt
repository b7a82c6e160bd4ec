use Rattle.dml_tree.proofs.OneFault as proof
use Rattle.dml_tree.proofs.laws.one_fault.Goals as goal

pub returns : goal.returns
returns c = λ file bytes tokens fault other h g. proof.one_fault file bytes tokens fault other h g
