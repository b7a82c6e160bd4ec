use Rattle.std.proofs.Common.{subst}
use Rattle.event_order.specs.Pending.{Among}
use Rattle.global_list.proofs.Keyed.{insert_put}
use Rattle.global_list.proofs.pending.PendingEvents.insert.Goals as goal

pub invariant_of-self-2 : goal.invariant_of-self-2
invariant_of-self-2 g c =
    rw c.in_ok-insert.ensures.entries ((insert_put c.args.event c.self.inside.events.entries c.self.invariant
    (λ d a. c.requires d (subst (λ xs. Among d xs) c.self.view_is a))).keyed)

pub returns : goal.returns
returns g c =
    let put = (insert_put c.args.event c.self.inside.events.entries c.self.invariant
    (λ d a. c.requires d (subst (λ xs. Among d xs) c.self.view_is a))).is_put in
    rw (c.in_ok-insert.ensures.entries, ← c.self.view_is) put
