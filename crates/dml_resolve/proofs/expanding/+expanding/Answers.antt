use Rattle.std.proofs.Common.{◌≡◌, ◌+◌, ◌++◌, ◌∷◌, [], inr, true, refl, drop, ap, sym, ◌∙◌, arith}
use Rattle.std.specs.Prelude.{Ok}
use Rattle.std.proofs.lemmas.Result.{err_from_is_err_and}
use Rattle.dml_tree.specs.declared.tree.Attribute.{Attribute}
use Rattle.dml_tree.specs.Attributes.{weight}
use Rattle.dml_tree.specs.TreeView.{tree_of}
use Rattle.dml_resolve.specs.Resolving.{count, expand_entries, is_schemas}
use Rattle.dml_resolve.specs.Members.{entries_of, inner_weight, level_at, value_weight, weight_at}
use Rattle.dml_resolve.proofs.Measures.{measure_falls, within_at}
use Rattle.dml_resolve.proofs.Expansions.{onto, onto_none, expand_step, expand_fault, expand_end, expand_counted, expand_too_large, weight_step, weight_at-none, or_fault}
use Rattle.dml_resolve.proofs.expanding.+expanding.Goals as goal

pub value_of-expand-requires : goal.value_of-expand-requires
value_of-expand-requires t c =
    let own = ap value_weight c.in-List.is in
    (omega (arith, own, c.decreases), omega (arith, own, c.requires))

pub expand-value_of-requires : goal.expand-value_of-requires
expand-value_of-requires t c =
    let m = c.member-item.result in
    let there = within_at c.args.root.now c.args.written.now c.args.left c.args.is_root c.in_ok-members.members.items c.deref-member-items.result.now c.loop-member.member-index m c.deref-member-items.ensures.value c.in_ok-members.ensures.within c.loop-member-test.true c.member-item.is in
    let falls = measure_falls (weight c.args.root.now) c.args.left (weight c.args.written.now) m.left (inner_weight m) there.no_more there.lighter there.small in
    (omega (arith, falls, c.decreases), there.small)

pub expand-returns-in_err-count-clause-fault : goal.expand-returns-in_err-count-clause-fault
expand-returns-in_err-count-clause-fault t c =
    let root = c.args.root.now in
    let members = c.in_ok-members.members in
    let counted = ap (λ n. count n c.level.new.counter.counted) (sym members.ok.0 ∙ sym c.len.ensures) ∙ c.in_err-count.ensures.counted in
    let p = err_from_is_err_and c.from_residual-in_err-count.result c.from_residual-in_err-count.ensures.1 in
    rw (p.1, p.2) (inr (expand_too_large root (level_at root c.args.left c.args.is_root c.args.written.now) members.items c.args.counter.now.counted c.level.new.counter.counted c.in_err-count.field-0.0 c.in_ok-members.ensures.level counted))

pub expand-loop-member-init : goal.expand-loop-member-init
expand-loop-member-init t c =
    let items = c.deref-member-items.result.now in
    let empty = c.new-attributes.ensures.items in
    let weightless : weight_at c.args.is_root (tree_of c.new-attributes.result.items) ≡ 0 = ap (λ l. weight_at c.args.is_root (tree_of l)) empty ∙ weight_at-none c.args.is_root in
    record {
      tree = ap (λ l. onto (tree_of l) (expand_entries (entries_of c.args.root.now items) c.count.new.self.counted)) empty ∙ onto_none (expand_entries (entries_of c.args.root.now items) c.count.new.self.counted);
      counted = omega (arith, weightless, c.in_ok-count.ensures.sum, c.in_ok-members.ensures.rises, c.len.ensures, c.deref-member-items.ensures.len);
    }

pub expand-loop-member-preserved : goal.expand-loop-member-preserved
expand-loop-member-preserved t c =
    let root = c.args.root.now in
    let items = c.deref-member-items.result.now in
    let i = c.loop-member.member-index in
    let m = c.member-item.result in
    let there = within_at root c.args.written.now c.args.left c.args.is_root c.in_ok-members.members.items items i m c.deref-member-items.ensures.value c.in_ok-members.ensures.within c.loop-member-test.true c.member-item.is in
    let xs = c.loop-member.attributes.items in
    let x : Attribute = record { key = c.in_ok-of.field-0; place = m.attribute.now.place; value = c.in_ok-value.value } in
    let key = c.in_ok-of.ensures ∙ c.as_bytes.ensures in
    let pushed = c.in_ok-push.ensures.items in
    let schemas = λ (h : m.kept ≡ true). ap is_schemas key ∙ there.schemas h in
    let heavier = weight_step c.args.is_root xs x m.kept there.expands schemas in
    let same : weight_at c.args.is_root (tree_of c.push.new.self.items) ≡ weight_at c.args.is_root (tree_of (xs ++ x ∷ [])) = ap (λ l. weight_at c.args.is_root (tree_of l)) pushed in
    record {
      tree =
          ap (λ l. onto (tree_of l) (expand_entries (entries_of root (drop (i + 1) items)) c.value_of.new.counter.counted)) pushed
          ∙ (sym (expand_step root items i m xs x c.loop-member.counter.counted c.value_of.new.counter.counted c.loop-member-test.true c.member-item.is c.in_ok-value.ensures.value (sym key) refl)
          ∙ c.loop-member.invariant.tree);
      counted = omega (arith, same, heavier, c.in_ok-value.ensures.counted, c.loop-member.invariant.counted, c.loop-member-test.true);
    }

pub expand-returns-in_err-value-clause-fault : goal.expand-returns-in_err-value-clause-fault
expand-returns-in_err-value-clause-fault t c =
    let root = c.args.root.now in
    let items = c.deref-member-items.result.now in
    let formed = c.in_ok-members.ensures.level ∙ ap (λ l. Ok (entries_of root l, c.level.new.counter.counted)) (sym c.deref-member-items.ensures.value) in
    let counted = ap (λ n. count n c.level.new.counter.counted) (c.deref-member-items.ensures.len ∙ sym c.len.ensures) ∙ c.in_ok-count.ensures.counted in
    let whole = expand_counted root (level_at root c.args.left c.args.is_root c.args.written.now) items c.args.counter.now.counted c.level.new.counter.counted c.count.new.self.counted formed counted ∙ sym c.loop-member.invariant.tree in
    let p = err_from_is_err_and c.from_residual-in_err-value.result c.from_residual-in_err-value.ensures.1 in
    rw (p.1, p.2) (or_fault (λ e. whole ∙ expand_fault root items c.loop-member.member-index c.member-item.result (tree_of c.loop-member.attributes.items) c.loop-member.counter.counted c.in_err-value.field-0.0 c.loop-member-test.true c.member-item.is e) c.in_err-value.ensures.fault)

pub expand-returns-clause-tree : goal.expand-returns-clause-tree
expand-returns-clause-tree t c =
    let root = c.args.root.now in
    let items = c.deref-member-items.result.now in
    let formed = c.in_ok-members.ensures.level ∙ ap (λ l. Ok (entries_of root l, c.level.new.counter.counted)) (sym c.deref-member-items.ensures.value) in
    let counted = ap (λ n. count n c.level.new.counter.counted) (c.deref-member-items.ensures.len ∙ sym c.len.ensures) ∙ c.in_ok-count.ensures.counted in
    expand_counted root (level_at root c.args.left c.args.is_root c.args.written.now) items c.args.counter.now.counted c.level.new.counter.counted c.count.new.self.counted formed counted
    ∙ (sym c.loop-member.invariant.tree
    ∙ (expand_end root items c.loop-member.member-index (tree_of c.loop-member.attributes.items) c.loop-member.counter.counted c.loop-member-test.false
    ∙ ap (λ t. Ok (t, c.loop-member.counter.counted)) (sym c.of-2.ensures)))

pub expand-returns-clause-counted : goal.expand-returns-clause-counted
expand-returns-clause-counted t c =
    let same = ap (weight_at c.args.is_root) c.of-2.ensures in
    omega (arith, same, c.loop-member.invariant.counted)
