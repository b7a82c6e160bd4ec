use Rattle.std.proofs.Common.{get_or, take, ◌+◌, ◌<◌, length, sym, subst}
use Rattle.std.specs.Prelude.{◌≡◌, Some, slice_get}
use Rattle.std.proofs.lemmas.List.{take_more}
use Rattle.std.proofs.lemmas.Option.{slice_get-get_or}
use Rattle.turn_table.specs.Passes.{view_of}
use Rattle.turn_table.specs.Turned.{key_of}
use Rattle.worker_hands.proofs.Asking.{told_then}
use Rattle.worker_turns.proofs.Posts.{among_begin, among_more, posts_whole, place_known}
use Rattle.worker_turns.proofs.Stepping.{still_then}
use Rattle.worker_turns.proofs.task.post.Goals as goal

pub loop-place-preserved : goal.loop-place-preserved
loop-place-preserved g c = (
  c.post_at.ensures.pass,
  among_more g.B.Behaviour.valid g.B.Behaviour.carried g.B.Behaviour.reaction (key_of c.args.table.now.turns.now).value (take c.loop-place.place-index c.of-place-items.result.now) c.args.table.now.number (view_of c.args.pass.now) (view_of c.loop-place.pass) c.loop-place.own c.args.hand.now c.loop-place.hand c.loop-place.invariant.1
      (get_or c.of-place-items.result.now c.loop-place.place-index 0) (view_of c.post_at.new.pass) c.post_at.new.own c.post_at.new.hand c.post_at.ensures.has c.post_at.ensures.tries c.post_at.ensures.told c.post_at.ensures.steps c.in_ok-post_at.ensures.done
      (take (c.loop-place.place-index + 1) c.of-place-items.result.now) (take_more c.of-place-items.result.now c.loop-place.place-index 0 c.loop-place-test.true),
)

pub returns-in_err-post_at-clause-told : goal.returns-in_err-post_at-clause-told
returns-in_err-post_at-clause-told g c = told_then c.args.hand.now c.loop-place.hand c.post_at.new.hand c.loop-place.invariant.1.told c.post_at.ensures.told

pub returns-in_err-post_at-clause-steps : goal.returns-in_err-post_at-clause-steps
returns-in_err-post_at-clause-steps g c = still_then (key_of c.args.table.now.turns.now).value c.args.table.now.number c.args.hand.now c.loop-place.hand c.post_at.new.hand c.loop-place.invariant.1.steps c.post_at.ensures.steps

pub loop-place-init : goal.loop-place-init
loop-place-init g c = (
  c.requires.pass,
  among_begin g.B.Behaviour.valid g.B.Behaviour.carried g.B.Behaviour.reaction (key_of c.args.table.now.turns.now).value c.args.table.now.number (view_of c.args.pass.now) c.args.own.now c.args.hand.now c.requires.has,
)

pub bounds-table-place : goal.bounds-table-place
bounds-table-place g c =
    subst (λ l. get_or c.of-place-items.result.now c.loop-place.place-index 0 < length l) (sym c.requires.table.own)
    (place_known (key_of c.args.table.now.turns.now).value.ends c.args.table.now.number c.of-place-items.result.now (c.requires.table.near.of c.args.table.now.number c.of-place-items.result.now c.of-place-items.ensures) c.loop-place.place-index c.loop-place-test.true)

pub returns-clause-done : goal.returns-clause-done
returns-clause-done g c =
    posts_whole (key_of c.args.table.now.turns.now).value c.args.table.now.number c.of-place-items.result.now (c.requires.table.near.of c.args.table.now.number c.of-place-items.result.now c.of-place-items.ensures) c.loop-place.place-index c.loop-place-test.false
    (view_of c.args.pass.now) (view_of c.loop-place.pass) c.args.hand.now c.loop-place.hand c.loop-place.invariant.1.asked

pub post_at-requires-clause-end : goal.post_at-requires-clause-end
post_at-requires-clause-end g c κs within =
    subst (λ l. slice_get l (get_or c.of-place-items.result.now c.loop-place.place-index 0) ≡ Some (get_or c.args.table.now.ends.now (get_or c.of-place-items.result.now c.loop-place.place-index 0) _)) c.requires.table.own
    (slice_get-get_or c.args.table.now.ends.now (get_or c.of-place-items.result.now c.loop-place.place-index 0) _
    (subst (λ l. get_or c.of-place-items.result.now c.loop-place.place-index 0 < length l) (sym c.requires.table.own)
    (place_known (key_of c.args.table.now.turns.now).value.ends c.args.table.now.number c.of-place-items.result.now (c.requires.table.near.of c.args.table.now.number c.of-place-items.result.now c.of-place-items.ensures) c.loop-place.place-index c.loop-place-test.true)))
