use Rattle.std.proofs.Common.{◌<◌, arith}
use Rattle.timeline_parts.proofs.Sending.{ok_holds}
use Rattle.timeline.proofs.Loops.{put_new, put_next}
use Rattle.timeline.proofs.opening.put_in.Goals as goal

pub insert-inserted-requires : goal.insert-inserted-requires
insert-inserted-requires g c = λ other a q.
    put_new c.args.events.now c.loop-event.event-index c.event-item.result c.args.pending.now.items c.loop-event.pending.items c.requires.new c.loop-event-test.true c.event-item.is c.loop-event.invariant.0 other a q

pub loop-event-preserved : goal.loop-event-preserved
loop-event-preserved g c =
    let room : 0 < c.loop-event.pending.spare = omega (arith, c.loop-event.invariant.1, c.requires.room, c.loop-event-test.true) in
    let put = ok_holds c.insert-inserted.result (c.insert-inserted.ensures.room room) c.insert-inserted.ensures.items in
    let spare = ok_holds c.insert-inserted.result (c.insert-inserted.ensures.room room) c.insert-inserted.ensures.spare in (
      put_next c.args.events.now c.loop-event.event-index c.event-item.result c.args.pending.now.items c.loop-event.pending.items c.insert-inserted.new.self.items c.loop-event-test.true c.event-item.is c.loop-event.invariant.0 put,
      omega (arith, c.loop-event.invariant.1, spare),
    )
