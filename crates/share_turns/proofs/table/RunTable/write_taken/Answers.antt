use Rattle.std.proofs.Common.{◌≡◌, ℕ, ◌+◌, sym, ◌∙◌, subst, inr, arith, Some, slice_get, get_or}
use Rattle.turn_table.specs.declared.view.View.{View}
use Rattle.turn_table.specs.Passes.{view_of}
use Rattle.turn_table.specs.Turned.{key_of}
use Rattle.turn_table.specs.Views.{mark}
use Rattle.plan_shares.specs.declared.crosses.CrossEnd.{CrossEnd}
use Rattle.share_rules.specs.Places.{mail_place}
use Rattle.share_turns.proofs.Taken.{into_there, AreTakenTo, taken_first, taken_all, taken_same, taken_next}
use Rattle.share_turns.proofs.Rows.{place_here, end_here, end_there, place_known, place_before, no_end}
use Rattle.share_turns.proofs.table.RunTable.write_taken.Goals as goal
use Rattle.turn_table.proofs.Lookups.{alike}

pub of-place-items-requires : goal.of-place-items-requires
of-place-items-requires g c = omega (arith, c.requires.table.near.many, c.requires.table.known)

pub loop-place-init : goal.loop-place-init
loop-place-init g c = record { pass = c.requires.pass; taken = taken_first (key_of c.args.self.now.turns.now).value c.of-place-items.result.now (view_of c.args.pass.now) c.args.self.now.number c.args.timeline.now c.requires.rises }

pub bounds-self-place : goal.bounds-self-place
bounds-self-place g c = place_known (key_of c.args.self.now.turns.now).value c.args.self.now.ends.now c.args.self.now.near.now.rows.items c.args.self.now.layout c.args.self.now.number c.requires.table c.args.self.now.number c.of-place-items.result.now c.of-place-items.ensures c.loop-place.place-index c.loop-place-test.true

pub write_taken_on-requires-clause-pass : goal.write_taken_on-requires-clause-pass
write_taken_on-requires-clause-pass g c κs within = c.loop-place.invariant.pass

pub write_taken_on-requires-clause-end : goal.write_taken_on-requires-clause-end
write_taken_on-requires-clause-end g c κs within = (end_here (key_of c.args.self.now.turns.now).value c.args.self.now.ends.now c.args.self.now.near.now.rows.items c.args.self.now.layout c.args.self.now.number c.requires.table c.args.self.now.number c.of-place-items.result.now c.of-place-items.ensures c.loop-place.place-index c.loop-place-test.true)

pub write_taken_on-requires-clause-holds : goal.write_taken_on-requires-clause-holds
write_taken_on-requires-clause-holds g c κs within = record {
  first = c.loop-place.invariant.taken.places c.args.self.now.number ∙ c.requires.holds.first;
  second = c.loop-place.invariant.taken.places (mail_place (key_of c.args.self.now.turns.now).value c.args.self.now.number) ∙ c.requires.holds.second;
  others = λ x own mail. c.loop-place.invariant.taken.places x ∙ c.requires.holds.others x own mail;
}

pub write_taken_on-requires-clause-among : goal.write_taken_on-requires-clause-among
write_taken_on-requires-clause-among g c κs within = λ is. into_there (g.B.Behaviour.valid (key_of c.args.self.now.turns.now).value.behaviour) (g.B.Behaviour.carried (key_of c.args.self.now.turns.now).value.behaviour) (g.B.Behaviour.reaction (key_of c.args.self.now.turns.now).value.behaviour) (key_of c.args.self.now.turns.now).value c.requires.run (mark (view_of c.args.pass.now)) c.args.self.now.number c.args.timeline.now c.requires.timeline (get_or c.of-place-items.result.now c.loop-place.place-index 0) (get_or c.args.self.now.ends.now (get_or c.of-place-items.result.now c.loop-place.place-index 0) no_end) (end_there (key_of c.args.self.now.turns.now).value c.args.self.now.ends.now c.args.self.now.near.now.rows.items c.args.self.now.layout c.args.self.now.number c.requires.table c.args.self.now.number c.of-place-items.result.now c.of-place-items.ensures c.loop-place.place-index c.loop-place-test.true) is

pub write_taken_on-requires-clause-noted : goal.write_taken_on-requires-clause-noted
write_taken_on-requires-clause-noted g c κs within = λ is. (c.loop-place.invariant.taken.rises (get_or c.of-place-items.result.now c.loop-place.place-index 0) (get_or c.args.self.now.ends.now (get_or c.of-place-items.result.now c.loop-place.place-index 0) no_end) (end_there (key_of c.args.self.now.turns.now).value c.args.self.now.ends.now c.args.self.now.near.now.rows.items c.args.self.now.layout c.args.self.now.number c.requires.table c.args.self.now.number c.of-place-items.result.now c.of-place-items.ensures c.loop-place.place-index c.loop-place-test.true) is).0

pub write_taken_on-requires-clause-rises : goal.write_taken_on-requires-clause-rises
write_taken_on-requires-clause-rises g c κs within = λ is. (c.loop-place.invariant.taken.rises (get_or c.of-place-items.result.now c.loop-place.place-index 0) (get_or c.args.self.now.ends.now (get_or c.of-place-items.result.now c.loop-place.place-index 0) no_end) (end_there (key_of c.args.self.now.turns.now).value c.args.self.now.ends.now c.args.self.now.near.now.rows.items c.args.self.now.layout c.args.self.now.number c.requires.table c.args.self.now.number c.of-place-items.result.now c.of-place-items.ensures c.loop-place.place-index c.loop-place-test.true) is).1

pub loop-place-preserved : goal.loop-place-preserved
loop-place-preserved g c = record {
  pass = c.write_taken_on.ensures.pass;
  taken = alike (get_or c.args.self.now.ends.now (get_or c.of-place-items.result.now c.loop-place.place-index 0) no_end).receiver c.args.self.now.number
      (λ is. subst (λ (w : View). AreTakenTo (key_of c.args.self.now.turns.now).value c.of-place-items.result.now (view_of c.args.pass.now) w c.args.self.now.number c.args.timeline.now (c.loop-place.place-index + 1)) (sym (c.write_taken_on.ensures.written is))
      (taken_next (key_of c.args.self.now.turns.now).value c.of-place-items.result.now (view_of c.args.pass.now) c.args.self.now.number c.args.timeline.now (view_of c.loop-place.pass) c.loop-place.place-index (get_or c.of-place-items.result.now c.loop-place.place-index 0) (get_or c.args.self.now.ends.now (get_or c.of-place-items.result.now c.loop-place.place-index 0) no_end) c.loop-place.invariant.pass.shaped (place_here c.of-place-items.result.now c.loop-place.place-index c.loop-place-test.true) (end_there (key_of c.args.self.now.turns.now).value c.args.self.now.ends.now c.args.self.now.near.now.rows.items c.args.self.now.layout c.args.self.now.number c.requires.table c.args.self.now.number c.of-place-items.result.now c.of-place-items.ensures c.loop-place.place-index c.loop-place-test.true) is c.requires.table.known c.loop-place.invariant.taken))
      (λ other. subst (λ (w : View). AreTakenTo (key_of c.args.self.now.turns.now).value c.of-place-items.result.now (view_of c.args.pass.now) w c.args.self.now.number c.args.timeline.now (c.loop-place.place-index + 1)) (sym (c.write_taken_on.ensures.same other))
      (taken_same (key_of c.args.self.now.turns.now).value c.of-place-items.result.now (view_of c.args.pass.now) c.args.self.now.number c.args.timeline.now (view_of c.loop-place.pass) c.loop-place.place-index (get_or c.of-place-items.result.now c.loop-place.place-index 0) (get_or c.args.self.now.ends.now (get_or c.of-place-items.result.now c.loop-place.place-index 0) no_end) (place_here c.of-place-items.result.now c.loop-place.place-index c.loop-place-test.true) (end_there (key_of c.args.self.now.turns.now).value c.args.self.now.ends.now c.args.self.now.near.now.rows.items c.args.self.now.layout c.args.self.now.number c.requires.table c.args.self.now.number c.of-place-items.result.now c.of-place-items.ensures c.loop-place.place-index c.loop-place-test.true) other c.loop-place.invariant.taken));
}

pub returns-clause-pass : goal.returns-clause-pass
returns-clause-pass g c = c.loop-place.invariant.pass

pub returns-clause-written : goal.returns-clause-written
returns-clause-written g c = taken_all (key_of c.args.self.now.turns.now).value c.of-place-items.result.now (view_of c.args.pass.now) c.args.self.now.number c.args.timeline.now (view_of c.loop-place.pass) c.loop-place.place-index c.loop-place.invariant.taken (λ (k : ℕ) (end : CrossEnd) (found : slice_get (key_of c.args.self.now.turns.now).value.ends k ≡ Some end) is. (place_before (key_of c.args.self.now.turns.now).value c.args.self.now.ends.now c.args.self.now.near.now.rows.items c.args.self.now.layout c.args.self.now.number c.requires.table c.args.self.now.number c.of-place-items.result.now c.of-place-items.ensures c.loop-place.place-index k end c.loop-place-test.false found (inr is)))
