use Rattle.std.proofs.Common.{◌≡◌, ◌++◌, drop}
use Rattle.dml_tree.specs.Printing.{printing}
use Rattle.dml_tree.specs.TreeView.{tree_of}
use Rattle.dml_tree.proofs.printing.+write_list.Given as goal

abbrev pub decreases-write_list : goal.decreases-write_list
decreases-write_list l = goal.size-write_list l

abbrev pub invariant-loop-attribute : goal.invariant-loop-attribute
invariant-loop-attribute l = l.out.items ++ printing l.indent (tree_of (drop l.attribute-index l.attribute-items)) ≡ l.initial.out.items ++ printing l.indent (tree_of l.attribute-items)
