use Rattle.std.proofs.Common.{◌≡◌, ◌++◌, List, [], drop, ap, sym, ◌∙◌, arith, append-nil, drop_of_length-le}
use Rattle.dml_tree.specs.declared.tree.Attribute.{Attribute}
use Rattle.dml_tree.specs.Printing.{printing}
use Rattle.dml_tree.specs.TreeView.{tree_of}
use Rattle.dml_tree.proofs.TreeLists.{inner_lighter, tree_of-attributes}
use Rattle.dml_tree.proofs.printing.+write_list.Goals as goal

pub write_list-requires : goal.write_list-requires
write_list-requires t c =
    let items = c.attributes-attribute-items.result.now in
    let i = c.loop-attribute.attribute-index in
    let item = c.attribute-item.result in
    let lighter = inner_lighter c.args.tree.now items c.attributes-attribute-items.ensures i item c.in-List.inner c.loop-attribute-test.true (ap (λ a. a.value) (sym c.attribute-item.is) ∙ c.in-List.is) in
    (omega (arith, lighter, c.decreases), tt)

pub returns : goal.returns
returns t c =
    let items = c.attributes-attribute-items.result.now in
    let none_left : drop c.loop-attribute.attribute-index items ≡ [] = drop_of_length-le items c.loop-attribute-test.false in
    sym (append-nil c.loop-attribute.out.items)
    ∙ ap (λ (l : List Attribute). c.loop-attribute.out.items ++ printing c.args.indent (tree_of l)) (sym none_left)
    ∙ c.loop-attribute.invariant
    ∙ ap (λ l. c.args.out.now.items ++ printing c.args.indent (tree_of l)) c.attributes-attribute-items.ensures
    ∙ ap (λ t. c.args.out.now.items ++ printing c.args.indent t) (tree_of-attributes c.args.tree.now)
