use Rattle.std.proofs.Common.{◌≡◌, ℕ, List, [], ◌∷◌, ◌++◌, ap, ◌∙◌, refl}
use Rattle.timeline_parts.proofs.Tables.{numbered_same}
use Rattle.timeline_parts.specs.Sending.{all_counted, all_put}
use Rattle.timeline_parts.proofs.Sending.{all_counted_append, all_put_append}
use Rattle.timeline_parts.proofs.desk.Desk.undo.Goals as goal

pub loop-event-preserved : goal.loop-event-preserved
loop-event-preserved g c =
    let now = c.loop-event.invariant in
    let rest = c.pop.new.self.items in
    let e = c.in-Some.event in (
      numbered_same c.uncount.new.counts.items c.loop-event.self.counts.items c.uncount.ensures.numbers now.0,
      numbered_same c.take_back.new.ends.items c.loop-event.self.ends.items c.take_back.ensures.numbers now.1,
      λ counts is. c.uncount.ensures.before (all_counted rest counts)
          (now.2 counts is ∙ (ap (λ es. all_counted es counts) c.in-Some.ensures.items ∙ all_counted_append rest (e ∷ []) counts)),
      λ ends is. c.take_back.ensures.before (all_put rest ends) e refl
          (now.3 ends is ∙ (ap (λ es. all_put es ends) c.in-Some.ensures.items ∙ all_put_append rest (e ∷ []) ends)),
    )
