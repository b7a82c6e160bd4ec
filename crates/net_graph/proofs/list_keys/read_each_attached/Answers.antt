use Rattle.std.proofs.Common.{codes, sym, ◌∙◌, true}
use Rattle.dml_tree.specs.TreeView.{attributes}
use Rattle.net_graph.specs.Keys.{values_of}
use Rattle.net_graph.specs.ListKeys.{nhi_of_kind, attached_each}
use Rattle.net_graph.proofs.ListsRead.{read_turn, skip_turn}
use Rattle.net_graph.proofs.list_keys.read_each_attached.Goals as goal
use Rattle.net_graph.proofs.list_keys.read_each_attached.Goals.{then-has_key+in_ok-nhi_of_kind_in+in_ok-push, else-has_key}

pub loop-attribute-preserved : goal.loop-attribute-preserved
loop-attribute-preserved c =
    let xs = c.attributes-attribute-items.result.now in let i = c.loop-attribute.attribute-index in let x = c.attribute-item.result in
    let f = nhi_of_kind true (codes "attach") in let key = codes "attach" in
    let whole = attached_each (values_of (codes "attach") (attributes c.args.link.now)) in
    elim c.if-has_key.branch [
      | then-has_key+in_ok-nhi_of_kind_in+in_ok-push w ↦ rw w.attached-is (read_turn f key whole xs i x c.loop-attribute.attached.items w.push.new.self.items w.in_ok-nhi_of_kind_in.field-0
          c.loop-attribute.invariant c.loop-attribute-test.true c.attribute-item.is (sym c.has_key.ensures ∙ w.if-has_key.true) w.in_ok-nhi_of_kind_in.ensures.read w.in_ok-push.ensures.items)
      | else-has_key w ↦ rw w.attached-is (skip_turn f key whole xs i x c.loop-attribute.attached.items
          c.loop-attribute.invariant c.loop-attribute-test.true c.attribute-item.is (sym c.has_key.ensures ∙ w.if-has_key.false))
    ]
