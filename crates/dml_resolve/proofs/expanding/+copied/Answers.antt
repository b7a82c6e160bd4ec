use Rattle.std.proofs.Common.{◌++◌, ap, sym, ◌∙◌, arith, append-nil, drop_of_length-le}
use Rattle.dml_tree.specs.TreeView.{tree_of}
use Rattle.dml_tree.proofs.TreeLists.{inner_lighter}
use Rattle.dml_resolve.proofs.Entries.{tree_whole}
use Rattle.dml_resolve.proofs.expanding.+copied.Goals as goal

pub copied-requires : goal.copied-requires
copied-requires t c =
    let items = c.attributes-attribute-items.result.now in
    let i = c.loop-attribute.attribute-index in
    let item = c.attribute-item.result in
    let lighter = inner_lighter c.args.tree.now items c.attributes-attribute-items.ensures i item c.in-List.inner c.loop-attribute-test.true (ap (λ a. a.value) (sym c.attribute-item.is) ∙ c.in-List.is) in
    (omega (arith, lighter, c.decreases), tt)

pub returns : goal.returns
returns t c =
    let items = c.attributes-attribute-items.result.now in
    c.of-2.ensures
    ∙ (ap tree_of (sym (append-nil c.loop-attribute.attributes.items) ∙ (ap (λ l. c.loop-attribute.attributes.items ++ l) (sym (drop_of_length-le items c.loop-attribute-test.false)) ∙ c.loop-attribute.invariant))
    ∙ tree_whole c.args.tree.now items c.attributes-attribute-items.ensures)
