use Rattle.dml_tree.proofs.OneTree as proof
use Rattle.dml_tree.proofs.laws.one_tree.Goals as goal

pub returns : goal.returns
returns c = λ file bytes tokens tree other h g. proof.one_tree file bytes 0 tokens tree other h g
