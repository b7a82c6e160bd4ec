use Rattle.std.proofs.Common.{◌∙◌, ap, is_some}
use Rattle.event_order.specs.Machine.{due}
use Rattle.global_list.specs.Pending.{key_of}
use Rattle.global_list.proofs.Keyed.{head_due}
use Rattle.global_list.proofs.pending.PendingEvents.has_due.Goals as goal

pub returns-in-Some : goal.returns-in-Some
returns-in-Some g c =
    head_due c.args.until c.in-Some.key.now c.in-Some.field-0-1.now c.self.inside.events.entries c.in-Some.ensures.first c.self.invariant
    ∙ ap (λ ps. is_some (due key_of c.args.until ps)) c.self.view_is
