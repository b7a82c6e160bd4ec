use Rattle.dml_tree.proofs.TreeLists as proof
use Rattle.dml_tree.proofs.laws.trees_are_lists.Goals as goal

pub returns-clause-attributes_of_tree : goal.returns-clause-attributes_of_tree
returns-clause-attributes_of_tree c = λ list. proof.attributes-tree_of list

pub returns-clause-tree_of_attributes : goal.returns-clause-tree_of_attributes
returns-clause-tree_of_attributes c = λ tree. proof.tree_of-attributes tree

pub returns-clause-joined : goal.returns-clause-joined
returns-clause-joined c = λ first second. proof.tree_of-append first second
