use Rattle.std.proofs.Common.{◌≡◌, drop}
use Rattle.dml_tree.specs.TreeView.{attributes}
use Rattle.net_build.specs.RingModel.{hops_in}
use Rattle.net_build.proofs.ReadingKeys.{onto}
use Rattle.net_build.proofs.ring.read_hops.Given as goal

abbrev pub invariant-loop-attribute : goal.invariant-loop-attribute
invariant-loop-attribute l = hops_in l.nodes (attributes l.ring) ≡ onto l.hops.items (hops_in l.nodes (drop l.attribute-index l.attribute-items))
