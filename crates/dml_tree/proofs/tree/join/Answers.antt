use Rattle.std.proofs.Common.{ap, ◌∙◌}
use Rattle.dml_tree.specs.TreeView.{tree_of, joined}
use Rattle.dml_tree.proofs.TreeLists.{tree_of-append}
use Rattle.dml_tree.proofs.tree.join.Goals as goal

pub returns-clause-joined : goal.returns-clause-joined
returns-clause-joined c =
    ap tree_of c.in_default.ensures.items
    ∙ tree_of-append c.first.inside.attributes.items c.second.inside.attributes.items
    ∙ ap (λ t. joined t (tree_of c.second.inside.attributes.items)) c.first.view_is
    ∙ ap (joined c.args.first.now) c.second.view_is
