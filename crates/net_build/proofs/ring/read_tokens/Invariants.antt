use Rattle.std.proofs.Common.{◌≡◌, drop}
use Rattle.dml_tree.specs.TreeView.{attributes}
use Rattle.net_build.specs.RingModel.{tokens_in}
use Rattle.net_build.proofs.ReadingKeys.{onto}
use Rattle.net_build.proofs.ring.read_tokens.Given as goal

abbrev pub invariant-loop-attribute : goal.invariant-loop-attribute
invariant-loop-attribute l = tokens_in l.nodes (attributes l.ring) ≡ onto l.tokens.items (tokens_in l.nodes (drop l.attribute-index l.attribute-items))
