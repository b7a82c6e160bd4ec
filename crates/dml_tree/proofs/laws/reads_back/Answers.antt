use Rattle.dml_tree.proofs.ReadBack as proof
use Rattle.dml_tree.proofs.laws.reads_back.Goals as goal

pub returns : goal.returns
returns c = λ tree. proof.reads_back tree
