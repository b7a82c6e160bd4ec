use Rattle.std.proofs.Common.{◌∙◌, length}
use Rattle.plan_shares.proofs.Filling.{rest_is}
use Rattle.sync_core.proofs.Lists.{read_among}
use Rattle.sync_core.proofs.Opening.{first_next, rest_next}
use Rattle.sync_core.proofs.core_parts.timelines_of.Goals as goal

pub new-requires-clause-part : goal.new-requires-clause-part
new-requires-clause-part g c κs within =
    let n = length c.loop-part.timelines.items in
    let next = rest_is c.args.parts.items n c.in-Some.part c.next.new.self.rest.items (c.loop-part.invariant.3 ∙ c.in-Some.ensures.steps.0) in
    c.requires.parts c.in-Some.part (read_among c.args.parts.items n c.in-Some.part next.0 next.1)

pub loop-part-preserved : goal.loop-part-preserved
loop-part-preserved g c =
    let ts = c.loop-part.timelines.items in
    let next = rest_is c.args.parts.items (length ts) c.in-Some.part c.next.new.self.rest.items (c.loop-part.invariant.3 ∙ c.in-Some.ensures.steps.0) in (
      tt,
      tt,
      first_next c.args.until c.args.budget c.args.parts.items ts c.push.new.self.items c.in-Some.part c.in-Ok.timeline next.0 next.1 c.in_ok-push-in-Ok.ensures.items c.loop-part.invariant.2 c.in-Ok.ensures.first,
      rest_next c.args.parts.items ts c.push.new.self.items c.in-Ok.timeline c.next.new.self.rest.items c.in_ok-push-in-Ok.ensures.items next.2,
    )
