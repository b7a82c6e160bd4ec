use Rattle.dml_tree.proofs.Beginnings as proof
use Rattle.dml_tree.proofs.laws.beginnings_go_on.Goals as goal

pub returns : goal.returns
returns c = λ file bytes tokens opened wanted begins. proof.goes_on file bytes 0 tokens opened wanted begins
