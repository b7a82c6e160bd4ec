use Rattle.std.proofs.Common.{◌≡◌, ℕ, List, Bor, map, ap, sym, ◌∙◌}
use Rattle.std.specs.Prelude.{cond, nat_eq, Some, None}
use Rattle.std.specs.Ordering.{nat_cmp}
use Rattle.std.specs.Cmp.Lexicographic.{pointwise, slice_cmp, bytes_decides}
use Rattle.std.specs.BTreeMap.{get_by}
use Rattle.std.proofs.lemmas.Map.Text.{is_eq-slice_cmp}
use Rattle.dml_tree.specs.declared.tree.Attribute.{Attribute}
use Rattle.dml_resolve.specs.Places.{has_key}
use Rattle.dml_resolve.proofs.RootSteps.{items_of, put_step}
use Rattle.dml_resolve.proofs.roots.put.Goals.{in-Some, in-None}
use Rattle.dml_resolve.proofs.roots.put.Goals as goal

pub returns : goal.returns
returns c = λ wanted.
    let x = c.args.attribute in
    let q : Bor (List ℕ) = record { ref_ptr = (0, 0); now = wanted } in
    let key : c.as_bytes-key.result.now ≡ x.now.key = c.as_bytes-key.ensures in
    let test = is_eq-slice_cmp c.as_bytes-key.result.now wanted ∙ ap (λ k. pointwise nat_eq k wanted) key in
    let old = get_by (λ (k : Bor (List ℕ)). slice_cmp nat_cmp wanted k.now) c.args.by_key.now in
    let mid = get_by (λ (k : Bor (List ℕ)). slice_cmp nat_cmp wanted k.now) c.remove.new.self in
    let removed = c.remove.ensures.updates.0 q ∙ ap (λ b. cond b None old) test in
    let inserted = c.in_ok-insert.ensures.updates.0 q ∙ ap (λ b. cond b (Some c.push.new.self) mid) test in
    let taken : map (λ (attribute : Bor Attribute). attribute.now) c.match-remove.found.items ≡ items_of c.remove.result = elim c.match-remove.branch [
      | in-Some w ↦ ap (λ v. map (λ (attribute : Bor Attribute). attribute.now) v.items) w.found-is ∙ ap items_of (sym w.in-Some.is)
      | in-None w ↦ ap (λ v. map (λ (attribute : Bor Attribute). attribute.now) v.items) w.found-is ∙ (ap (map (λ (attribute : Bor Attribute). attribute.now)) w.new-found.ensures.items ∙ ap items_of (sym w.in-None.is))
    ] in
    put_step (has_key wanted x.now) x c.remove.result old mid _ c.match-remove.found.items c.push.new.self taken c.in_ok-push.ensures.items removed inserted
    (λ same. c.remove.ensures.value ∙ ap (λ k. get_by (λ (l : Bor (List ℕ)). slice_cmp nat_cmp k l.now) c.args.by_key.now) (key ∙ (bytes_decides x.now.key wanted).0 same))
