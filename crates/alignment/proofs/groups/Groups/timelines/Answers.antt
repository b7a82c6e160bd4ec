use Rattle.std.proofs.Common.{ap, ◌∙◌}
use Rattle.alignment.proofs.Numbering.{top_step, other_step}
use Rattle.alignment.proofs.groups.Groups.timelines.Goals as goal
use Rattle.alignment.proofs.groups.Groups.timelines.Goals.{then-parent-entity+in_ok-push, else-parent-entity+in_ok-push-2}

pub loop-entity-preserved : goal.loop-entity-preserved
loop-entity-preserved c =
    let old = c.loop-entity in
    let new = c.if-parent-entity in
    elim c.if-parent-entity.branch [
      | then-parent-entity+in_ok-push w ↦
          let next = top_step c.args.self.now c.self.inside.parents.items c.deref-parent-items.result.now old.lines.items new.lines.items old.count new.count old.entity c.self.view_is c.deref-parent-items.ensures.value c.self.invariant
          old.invariant.counted old.invariant.length c.loop-entity-test.true w.if-parent-entity.true (ap (λ v. v.items) w.lines-is ∙ w.in_ok-push.ensures.items) w.count-is in
          record { counted = next.0; length = next.1 }
      | else-parent-entity+in_ok-push-2 w ↦
          let next = other_step c.args.self.now c.self.inside.parents.items c.deref-parent-items.result.now old.lines.items new.lines.items old.count new.count old.entity w.index-line.result.now c.self.view_is c.deref-parent-items.ensures.value c.self.invariant
          old.invariant.counted old.invariant.length c.loop-entity-test.true w.if-parent-entity.false w.index-line.ensures (ap (λ v. v.items) w.lines-is ∙ w.in_ok-push-2.ensures.items) w.count-is in
          record { counted = next.0; length = next.1 }
    ]
