use Rattle.dml_tree.proofs.TreeLists as proof
use Rattle.dml_tree.proofs.laws.inner_lists_are_lighter.Goals as goal

pub returns : goal.returns
returns c = λ tree items is at default inner lt e. proof.inner_lighter tree items is at default inner lt e
