use Rattle.std.proofs.Common.{◌≡◌, drop}
use Rattle.dml_tree.specs.TreeView.{attributes}
use Rattle.net_graph.specs.Keys.{values_of}
use Rattle.net_graph.proofs.keys.first_value.Given as goal

abbrev pub invariant-loop-attribute : goal.invariant-loop-attribute
invariant-loop-attribute l = values_of l.key (attributes l.tree) ≡ values_of l.key (drop l.attribute-index l.attribute-items)
