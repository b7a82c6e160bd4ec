use Rattle.std.proofs.Common.{◌≡◌, ◌≤◌, ◌+◌, drop, length, codes}
use Rattle.dml_tree.specs.TreeView.{attributes}
use Rattle.net_graph.specs.Keys.{lists_of}
use Rattle.net_graph.specs.ListKeys.{downs_from}
use Rattle.net_graph.proofs.ListsRead.{onto}
use Rattle.net_graph.proofs.list_keys.read_downs.Given as goal

abbrev pub invariant-loop-attribute : goal.invariant-loop-attribute
invariant-loop-attribute l = record {
  read : downs_from l.frequency l.before (lists_of (codes "down") (attributes l.link)) ≡
      onto l.downs.items (downs_from l.frequency (l.before + length l.downs.items) (lists_of (codes "down") (drop l.attribute-index l.attribute-items)));
  few : l.before + length l.downs.items ≤ 64;
}
