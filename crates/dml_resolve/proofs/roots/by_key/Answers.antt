use Rattle.std.proofs.Common.{◌≡◌, ◌+◌, ◌++◌, drop, filter, ap, sym, ◌∙◌, append-nil, drop_of_length-le}
use Rattle.dml_resolve.specs.Resolving.{is_substitution}
use Rattle.dml_resolve.specs.Roots.{is_plain, under}
use Rattle.dml_resolve.proofs.RootSteps.{put_plain, put_passed}
use Rattle.dml_resolve.proofs.roots.by_key.Goals.{then-not-is_substitution+in_ok-put, else-not-is_substitution}
use Rattle.dml_resolve.proofs.roots.by_key.Goals as goal

pub loop-attribute-preserved : goal.loop-attribute-preserved
loop-attribute-preserved c = λ wanted.
    let items = c.attributes-attribute-items.result.now in
    let i = c.loop-attribute.attribute-index in
    let x = c.attribute-item.result in
    let substitution : c.is_substitution.result ≡ is_substitution x.key = c.is_substitution.ensures ∙ ap is_substitution c.as_bytes.ensures in
    elim c.if-not-is_substitution.branch [
      | then-not-is_substitution+in_ok-put w ↦
          (ap (λ m. under m wanted ++ filter (is_plain wanted) (drop (i + 1) items)) w.by_key-is
          ∙ (put_plain wanted items i x (under c.loop-attribute.by_key wanted) _ c.loop-attribute-test.true c.attribute-item.is (sym substitution ∙ w.if-not-is_substitution.true) (w.in_ok-put.ensures wanted) ∙ c.loop-attribute.invariant wanted))
      | else-not-is_substitution w ↦
          (ap (λ m. under m wanted ++ filter (is_plain wanted) (drop (i + 1) items)) w.by_key-is
          ∙ (put_passed wanted items i x (under c.loop-attribute.by_key wanted) c.loop-attribute-test.true c.attribute-item.is (sym substitution ∙ w.if-not-is_substitution.false) ∙ c.loop-attribute.invariant wanted))
    ]

pub returns : goal.returns
returns c = λ wanted.
    let items = c.attributes-attribute-items.result.now in
    sym (append-nil (under c.loop-attribute.by_key wanted))
    ∙ (ap (λ l. under c.loop-attribute.by_key wanted ++ filter (is_plain wanted) l) (sym (drop_of_length-le items c.loop-attribute-test.false))
    ∙ (c.loop-attribute.invariant wanted
    ∙ ap (filter (is_plain wanted)) c.attributes-attribute-items.ensures))
