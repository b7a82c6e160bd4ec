use Rattle.std.proofs.Common.{◌∙◌}
use Rattle.global_list.proofs.Keyed.{new_key, put_next}
use Rattle.global_list.proofs.pending.PendingEvents.of.Goals as goal

pub insert-requires : goal.insert-requires
insert-requires g c =
    new_key c.args.events.now c.loop-event.pending c.loop-event.event-index c.event-item.result c.requires c.loop-event-test.true c.event-item.is c.loop-event.invariant

pub loop-event-preserved : goal.loop-event-preserved
loop-event-preserved g c =
    c.in_ok-insert.ensures
    ∙ put_next c.args.events.now c.loop-event.pending c.loop-event.event-index c.event-item.result c.requires c.loop-event-test.true c.event-item.is c.loop-event.invariant
