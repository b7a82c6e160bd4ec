use Rattle.std.proofs.Common.{◌∙◌, ap, sym, ◌++◌, ◌∷◌, []}
use Rattle.dml_tree.specs.declared.tree.Value.TheVariants as value
use Rattle.dml_tree.specs.TreeView.{tree_of}
use Rattle.dml_tree.proofs.builder.Builder.close_list.Goals as goal

pub returns-clause-closed : goal.returns-clause-closed
returns-clause-closed c =
    let added = c.in_ok-add.ensures.added in
    let o = c.in-Some.open in
    record {
      file = added.file;
      closed = o;
      opened = c.in-Some.ensures.items ∙ ap (λ os. os ++ o ∷ []) (sym added.opened);
      key_left = added.key_left;
      attributes = added.attributes
          ∙ ap (λ v. v.items ++ record { key = o.key.text; place = o.key.place; value = value.List c.of.result } ∷ []) c.replace-inner.ensures.after
          ∙ ap (λ t. o.before.items ++ record { key = o.key.text; place = o.key.place; value = value.List t } ∷ []) (c.of.ensures ∙ ap (λ v. tree_of v.items) c.replace-inner.ensures.value);
    }
