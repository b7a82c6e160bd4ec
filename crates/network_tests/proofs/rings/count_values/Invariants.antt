use Rattle.std.proofs.Common.{◌≡◌, ◌≤◌, ◌+◌, length, drop}
use Rattle.dml_tree.specs.TreeView.{attributes}
use Rattle.net_graph.specs.Keys.{values_of}
use Rattle.network_tests.proofs.rings.count_values.Given as goal

abbrev pub invariant-loop-attribute : goal.invariant-loop-attribute
invariant-loop-attribute l = record {
  counted : length (values_of l.key (attributes l.tree)) ≡ l.count + length (values_of l.key (drop l.attribute-index l.attribute-items));
  few : l.count ≤ l.attribute-index;
}
