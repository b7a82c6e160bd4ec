use Rattle.std.proofs.Common.{◌≡◌, ◌+◌, Bor, List, ℕ, true, drop, ap, sym, ◌∙◌}
use Rattle.std.specs.Prelude.{cond, nat_eq, ◌||◌}
use Rattle.std.specs.Ordering.{nat_cmp}
use Rattle.std.specs.Cmp.Lexicographic.{pointwise, slice_cmp}
use Rattle.std.specs.BTreeSet.{contains_by}
use Rattle.std.proofs.lemmas.Map.Text.{is_eq-slice_cmp}
use Rattle.dml_tree.specs.TreeView.{tree_of}
use Rattle.dml_resolve.specs.Resolving.{has_plain, is_substitution}
use Rattle.dml_resolve.proofs.Entries.{has_plain_at, key_put, key_passed, or_none, tree_end, tree_whole}
use Rattle.dml_resolve.proofs.own_keys.plain_keys.Goals.{then-not-is_substitution+in_ok-insert, else-not-is_substitution}
use Rattle.dml_resolve.proofs.own_keys.plain_keys.Goals as goal

pub loop-attribute-preserved : goal.loop-attribute-preserved
loop-attribute-preserved c = λ wanted.
    let items = c.attributes-attribute-items.result.now in
    let i = c.loop-attribute.attribute-index in
    let x = c.attribute-item.result in
    let old = contains_by (λ key. slice_cmp nat_cmp wanted key.now) c.loop-attribute.keys in
    let rest = has_plain (tree_of (drop (i + 1) items)) wanted in
    let substitution : c.is_substitution.result ≡ is_substitution x.key = c.is_substitution.ensures ∙ ap is_substitution c.as_bytes-key.ensures in
    let before = ap (λ b. old || b) (sym (has_plain_at items i x wanted c.loop-attribute-test.true c.attribute-item.is)) ∙ c.loop-attribute.invariant wanted in
    let q : Bor (List ℕ) = record { ref_ptr = (0, 0); now = wanted } in
    elim c.if-not-is_substitution.branch [
      | then-not-is_substitution+in_ok-insert w ↦
          (let put = w.in_ok-insert.ensures.updates.0 q ∙ ap (λ b. cond b true old) (is_eq-slice_cmp c.as_bytes-key.result.now wanted ∙ ap (λ k. pointwise nat_eq k wanted) c.as_bytes-key.ensures) in
          key_put (is_substitution x.key) (pointwise nat_eq x.key wanted) old _ rest _ (sym substitution ∙ w.if-not-is_substitution.true) (ap (λ keys. contains_by (λ key. slice_cmp nat_cmp wanted key.now) keys) w.keys-is ∙ put) before)
      | else-not-is_substitution w ↦
          ap (λ keys. contains_by (λ key. slice_cmp nat_cmp wanted key.now) keys || rest) w.keys-is
          ∙ key_passed (is_substitution x.key) (pointwise nat_eq x.key wanted) old rest _ (sym substitution ∙ w.if-not-is_substitution.false) before
    ]

pub returns : goal.returns
returns c = λ wanted.
    let items = c.attributes-attribute-items.result.now in
    let there = contains_by (λ key. slice_cmp nat_cmp wanted key.now) c.loop-attribute.keys in
    sym (or_none there)
    ∙ (ap (λ t. there || has_plain t wanted) (sym (tree_end items c.loop-attribute.attribute-index c.loop-attribute-test.false))
    ∙ (c.loop-attribute.invariant wanted
    ∙ ap (λ t. has_plain t wanted) (tree_whole c.args.written.now items c.attributes-attribute-items.ensures)))
