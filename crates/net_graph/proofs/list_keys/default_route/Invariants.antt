use Rattle.std.proofs.Common.{◌≡◌, drop}
use Rattle.dml_tree.specs.TreeView.{attributes}
use Rattle.net_graph.specs.ListKeys.{routes_of, default_in}
use Rattle.net_graph.proofs.list_keys.default_route.Given as goal

abbrev pub invariant-loop-attribute : goal.invariant-loop-attribute
invariant-loop-attribute l = default_in (routes_of (attributes l.host)) ≡ default_in (routes_of (drop l.attribute-index l.attribute-items))
