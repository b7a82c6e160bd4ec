use Rattle.std.proofs.Common.{◌≡◌, ◌<◌, ◌+◌, ℕ, true, false, length, ap, ◌∙◌, cond, min, nat_le, arith}
use Rattle.event_order.proofs.Steps.{le_test}
use Rattle.timeline_parts.specs.Tables.{numbers_of}
use Rattle.timeline_parts.specs.Settling.{goes}
use Rattle.timeline_parts.proofs.Tables.{numbers_length, among_place}
use Rattle.timeline_parts.proofs.Sending.{ok_holds}
use Rattle.timeline_parts.proofs.Settles.{none_holds, some_holds, same_within, le_false, goes_not, goes_yes, staying_new, settled_stays, settled_goes}
use Rattle.timeline_parts.proofs.settling.settle.Goals as goal
use Rattle.timeline_parts.proofs.settling.settle.Goals.{then-is_none, else-is_none+then-event-from, else-is_none+else-event-from}

pub insert-inserted-requires : goal.insert-inserted-requires
insert-inserted-requires g c = λ other a q.
    let x = c.event-item.result in
    let stays : goes c.args.ends.now x ≡ false = goes_not c.args.ends.now c.args.from x (none_holds c.place_of.result c.if-is_none.ensures c.place_of.ensures.none) in
    staying_new c.args.ends.now c.args.from c.args.written.now c.loop-event.event-index x c.args.pending.now.items c.loop-event.pending.items c.args.arrival c.loop-event.pending.spare c.loop-event.least
    c.requires.new c.loop-event-test.true c.event-item.is stays c.loop-event.invariant other a q

pub loop-event-preserved : goal.loop-event-preserved
loop-event-preserved g c =
    let x = c.event-item.result in
    let ends = c.args.ends.now in
    let ws = c.args.written.now in
    let i = c.loop-event.event-index in
    let now = c.loop-event.invariant in
    elim c.if-is_none.branch [
      | then-is_none w ↦
          let stays : goes ends x ≡ false = goes_not ends c.args.from x (none_holds c.place_of.result w.if-is_none.ensures c.place_of.ensures.none) in
          let new = w.insert-inserted.new.self in
          let room : 0 < c.loop-event.pending.spare = omega (arith, now.room, c.loop-event-test.true) in
          let put = ok_holds w.insert-inserted.result (w.insert-inserted.ensures.room room) w.insert-inserted.ensures.items in
          let spare = ok_holds w.insert-inserted.result (w.insert-inserted.ensures.room room) w.insert-inserted.ensures.spare in
          rw (w.pending-is, w.least-is) (settled_stays ends c.args.from ws i x c.args.pending.now.items c.loop-event.pending.items new.items c.args.arrival c.loop-event.pending.spare new.spare c.loop-event.least
          c.loop-event-test.true c.event-item.is stays now put spare)
      | else-is_none+then-event-from w ↦
          let place = some_holds c.place_of.result w.if-is_none.ensures c.place_of.ensures.found in
          let within = some_holds c.place_of.result w.if-is_none.ensures c.place_of.ensures.within in
          let goes_on : goes ends x ≡ true = goes_yes ends c.args.from x (among_place (numbers_of ends) place.0 x.key.channel (same_within ends place.0 within.0 c.place_of.result place.1 within.1 within.2) place.2) in
          let t : nat_le c.args.from x.key.time ≡ true = le_test c.args.from x.key.time w.if-event-from.true in
          let is : c.if-is_none.least ≡ cond (nat_le c.args.from x.key.time) (min x.key.time c.loop-event.least) c.loop-event.least = rw t (w.least-is ∙ w.min-least.ensures) in
          rw w.pending-is (settled_goes ends c.args.from ws i x c.args.pending.now.items c.loop-event.pending.items c.args.arrival c.loop-event.pending.spare c.loop-event.least c.if-is_none.least
          c.loop-event-test.true c.event-item.is goes_on now is)
      | else-is_none+else-event-from w ↦
          let place = some_holds c.place_of.result w.if-is_none.ensures c.place_of.ensures.found in
          let within = some_holds c.place_of.result w.if-is_none.ensures c.place_of.ensures.within in
          let goes_on : goes ends x ≡ true = goes_yes ends c.args.from x (among_place (numbers_of ends) place.0 x.key.channel (same_within ends place.0 within.0 c.place_of.result place.1 within.1 within.2) place.2) in
          let t : nat_le c.args.from x.key.time ≡ false = le_false c.args.from x.key.time w.if-event-from.false in
          let is : c.if-is_none.least ≡ cond (nat_le c.args.from x.key.time) (min x.key.time c.loop-event.least) c.loop-event.least = rw t w.least-is in
          rw w.pending-is (settled_goes ends c.args.from ws i x c.args.pending.now.items c.loop-event.pending.items c.args.arrival c.loop-event.pending.spare c.loop-event.least c.if-is_none.least
          c.loop-event-test.true c.event-item.is goes_on now is)
    ]
