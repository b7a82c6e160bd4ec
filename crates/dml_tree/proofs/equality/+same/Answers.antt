use Rattle.std.proofs.Common.{◌≡◌, true, false, get_or, ap, sym, ◌∙◌, arith}
use Rattle.dml_tree.specs.declared.tree.Attribute.{Attribute}
use Rattle.dml_tree.specs.SameTree.{same_text}
use Rattle.dml_tree.specs.SameValue.{same_value}
use Rattle.dml_tree.proofs.TreeLists.{value_weight, value_lighter}
use Rattle.dml_tree.proofs.SameLists.{other_length, both_end, one_each, same_trees, no_key_and, no_value_and, not_true, not_false}
use Rattle.dml_tree.proofs.equality.+same.Goals as goal

pub are_same-returns-then-firsts-seconds : goal.are_same-returns-then-firsts-seconds
are_same-returns-then-firsts-seconds t c =
    let xs = c.attributes-firsts.result.now in
    let ys = c.attributes-seconds.result.now in
    sym (same_trees c.args.first.now c.args.second.now xs ys c.attributes-firsts.ensures c.attributes-seconds.ensures ∙ other_length xs ys c.if-firsts-seconds.true)

pub are_same-returns-then-ne : goal.are_same-returns-then-ne
are_same-returns-then-ne t c =
    let xs = c.attributes-firsts.result.now in
    let ys = c.attributes-seconds.result.now in
    let i = c.loop-at.at in
    let x = c.index-firsts-at.result in
    let y = c.index-seconds-at.result in
    let keys : same_text (get_or xs i x).key (get_or ys i y).key ≡ false =
    ap (λ (a : Attribute). same_text a.key (get_or ys i y).key) (sym c.index-firsts-at.is) ∙ ap (λ (a : Attribute). same_text x.key a.key) (sym c.index-seconds-at.is)
    ∙ ap (λ k. same_text k y.key) (sym c.as_bytes.ensures) ∙ ap (same_text c.as_bytes.result.now) (sym c.as_bytes-in-loop-at.ensures) ∙ not_true _ (sym c.ne.ensures ∙ c.if-ne.true) in
    sym (same_trees c.args.first.now c.args.second.now xs ys c.attributes-firsts.ensures c.attributes-seconds.ensures ∙ c.loop-at.invariant
    ∙ one_each xs ys i x c.loop-at-test.true y (omega (arith, c.if-firsts-seconds.false, c.loop-at-test.true)) ∙ no_key_and _ _ _ keys)

pub are_same-are_same_values-requires : goal.are_same-are_same_values-requires
are_same-are_same_values-requires t c =
    let items = c.attributes-firsts.result.now in
    let item = c.index-firsts-at.result in
    let lighter = value_lighter c.args.first.now items c.attributes-firsts.ensures c.loop-at.at item c.loop-at-test.true in
    let own = ap (λ (a : Attribute). value_weight a.value) c.index-firsts-at.is in
    (omega (arith, lighter, own, c.decreases), tt)

pub are_same-returns-then-not-are_same_values : goal.are_same-returns-then-not-are_same_values
are_same-returns-then-not-are_same_values t c =
    let xs = c.attributes-firsts.result.now in
    let ys = c.attributes-seconds.result.now in
    let i = c.loop-at.at in
    let x = c.index-firsts-at.result in
    let y = c.index-seconds-at.result in
    let keys : same_text (get_or xs i x).key (get_or ys i y).key ≡ true =
    ap (λ (a : Attribute). same_text a.key (get_or ys i y).key) (sym c.index-firsts-at.is) ∙ ap (λ (a : Attribute). same_text x.key a.key) (sym c.index-seconds-at.is)
    ∙ ap (λ k. same_text k y.key) (sym c.as_bytes.ensures) ∙ ap (same_text c.as_bytes.result.now) (sym c.as_bytes-in-loop-at.ensures) ∙ not_false _ (sym c.ne.ensures ∙ c.if-ne.false) in
    let values : same_value (get_or xs i x).value (get_or ys i y).value ≡ false =
    ap (λ (a : Attribute). same_value a.value (get_or ys i y).value) (sym c.index-firsts-at.is) ∙ ap (λ (a : Attribute). same_value x.value a.value) (sym c.index-seconds-at.is)
    ∙ sym c.are_same_values.ensures ∙ c.if-not-are_same_values.true in
    sym (same_trees c.args.first.now c.args.second.now xs ys c.attributes-firsts.ensures c.attributes-seconds.ensures ∙ c.loop-at.invariant
    ∙ one_each xs ys i x c.loop-at-test.true y (omega (arith, c.if-firsts-seconds.false, c.loop-at-test.true)) ∙ no_value_and _ _ _ keys values)

pub are_same-returns : goal.are_same-returns
are_same-returns t c =
    let xs = c.attributes-firsts.result.now in
    let ys = c.attributes-seconds.result.now in
    sym (same_trees c.args.first.now c.args.second.now xs ys c.attributes-firsts.ensures c.attributes-seconds.ensures ∙ c.loop-at.invariant
    ∙ both_end xs ys c.loop-at.at c.loop-at-test.false (omega (arith, c.if-firsts-seconds.false, c.loop-at-test.false)))
