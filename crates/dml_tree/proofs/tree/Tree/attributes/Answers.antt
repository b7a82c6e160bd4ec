use Rattle.std.proofs.Common.{sym, ap, ◌∙◌}
use Rattle.dml_tree.specs.TreeView.{attributes}
use Rattle.dml_tree.proofs.TreeLists.{attributes-tree_of}
use Rattle.dml_tree.proofs.tree.Tree.attributes.Goals as goal

pub returns : goal.returns
returns c = c.as_slice.ensures.value ∙ sym (attributes-tree_of c.self.inside.attributes.items) ∙ ap attributes c.self.view_is
