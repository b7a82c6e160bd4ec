use Rattle.std.proofs.Common.{◌≡◌, drop}
use Rattle.dml_tree.specs.TreeView.{attributes}
use Rattle.net_graph.specs.Keys.{lists_of}
use Rattle.net_graph.proofs.keys.first_list.Given as goal

abbrev pub invariant-loop-attribute : goal.invariant-loop-attribute
invariant-loop-attribute l = lists_of l.key (attributes l.tree) ≡ lists_of l.key (drop l.attribute-index l.attribute-items)
