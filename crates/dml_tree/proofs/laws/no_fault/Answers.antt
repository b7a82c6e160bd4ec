use Rattle.dml_tree.proofs.OneFault as proof
use Rattle.dml_tree.proofs.laws.no_fault.Goals as goal

pub returns : goal.returns
returns c = λ file bytes tokens tree fault h g. proof.no_fault file bytes tokens tree fault h g
