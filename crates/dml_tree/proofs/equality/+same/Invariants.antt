use Rattle.std.proofs.Common.{◌≡◌, ◌*◌, ◌+◌, ◌-◌, length, drop}
use Rattle.dml_tree.specs.Attributes.{weight}
use Rattle.dml_tree.specs.TreeView.{tree_of}
use Rattle.dml_tree.specs.SameTree.{same_tree}
use Rattle.dml_tree.proofs.TreeLists.{value_weight}
use Rattle.dml_tree.proofs.equality.+same.Given as goal

abbrev pub decreases-are_same : goal.decreases-are_same
decreases-are_same l = 2 * weight l.first.now

abbrev pub decreases-are_same_values : goal.decreases-are_same_values
decreases-are_same_values l = 2 * value_weight l.first.now + 1

abbrev pub invariant-are_same-loop-at : goal.invariant-are_same-loop-at
invariant-are_same-loop-at l = same_tree (tree_of l.firsts) (tree_of l.seconds) ≡ same_tree (tree_of (drop l.at l.firsts)) (tree_of (drop l.at l.seconds))

abbrev pub decreases-are_same-loop-at : goal.decreases-are_same-loop-at
decreases-are_same-loop-at l = length l.firsts - l.at
