use Rattle.std.proofs.Common.{◌≡◌, drop, codes}
use Rattle.dml_tree.specs.TreeView.{attributes}
use Rattle.net_graph.specs.Keys.{values_of}
use Rattle.net_graph.specs.ListKeys.{attached_each}
use Rattle.net_graph.proofs.ListsRead.{onto}
use Rattle.net_graph.proofs.list_keys.read_each_attached.Given as goal

abbrev pub invariant-loop-attribute : goal.invariant-loop-attribute
invariant-loop-attribute l = attached_each (values_of (codes "attach") (attributes l.link)) ≡ onto l.attached.items (attached_each (values_of (codes "attach") (drop l.attribute-index l.attribute-items)))
