use Rattle.std.proofs.Common.{get_or, arith}
use Rattle.std.proofs.lemmas.Option.{slice_get-get_or}
use Rattle.share_turns.proofs.Rows.{near_first, near_more, near_all}
use Rattle.share_turns.proofs.near.Near.new.Goals as goal

pub loop-place-init : goal.loop-place-init
loop-place-init c = near_first c.args.ends.now c.args.timelines c.in_ok-near.near.rows.items c.in_ok-near.ensures

pub add-requires : goal.add-requires
add-requires c =
    let end = c.requires.known c.loop-place.place (get_or c.args.ends.now c.loop-place.place (record { channel = 0; sender = 0; receiver = 0 })) (slice_get-get_or c.args.ends.now c.loop-place.place (record { channel = 0; sender = 0; receiver = 0 }) c.loop-place-test.true) in
    omega (arith, c.loop-place.invariant.many, end.0)

pub add-requires-in-loop-place : goal.add-requires-in-loop-place
add-requires-in-loop-place c =
    let end = c.requires.known c.loop-place.place (get_or c.args.ends.now c.loop-place.place (record { channel = 0; sender = 0; receiver = 0 })) (slice_get-get_or c.args.ends.now c.loop-place.place (record { channel = 0; sender = 0; receiver = 0 }) c.loop-place-test.true) in
    omega (arith, c.in_ok-add.ensures.many, c.loop-place.invariant.many, end.1)

pub loop-place-preserved : goal.loop-place-preserved
loop-place-preserved c = near_more c.args.ends.now c.args.timelines c.loop-place.place (get_or c.args.ends.now c.loop-place.place (record { channel = 0; sender = 0; receiver = 0 }))
    c.loop-place.near.rows.items c.add.new.self.rows.items c.add-in-loop-place.new.self.rows.items
    (slice_get-get_or c.args.ends.now c.loop-place.place (record { channel = 0; sender = 0; receiver = 0 }) c.loop-place-test.true) c.in_ok-add.ensures c.in_ok-add-2.ensures c.loop-place.invariant

pub returns : goal.returns
returns c = near_all c.args.ends.now c.args.timelines c.loop-place.near.rows.items c.loop-place.place (omega arith) c.loop-place.invariant
