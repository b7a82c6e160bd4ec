use Rattle.std.proofs.Common.{◌≡◌, ℕ, inr, arith, Some, slice_get, get_or}
use Rattle.turn_table.specs.Passes.{view_of}
use Rattle.turn_table.specs.Turned.{key_of}
use Rattle.turn_table.specs.Views.{note}
use Rattle.plan_shares.specs.declared.crosses.CrossEnd.{CrossEnd}
use Rattle.share_rules.specs.Places.{mail_place}
use Rattle.share_turns.proofs.Words.{mail_words}
use Rattle.share_rules.proofs.Taking.{sender_known, receiver_known}
use Rattle.share_turns.proofs.Noting.{receiver_of, ends_first, ends_next}
use Rattle.share_turns.proofs.Rows.{place_here, end_here, end_there, place_known, place_before, no_end}
use Rattle.share_turns.proofs.table.RunTable.note_mail.Goals as goal

pub of-place-items-requires : goal.of-place-items-requires
of-place-items-requires g c = omega (arith, c.requires.table.near.many, c.requires.receiver)

pub loop-place-init : goal.loop-place-init
loop-place-init g c = record { pass = c.requires.pass; ends = ends_first (key_of c.args.self.now.turns.now).value receiver_of receiver_of c.of-place-items.result.now (view_of c.args.pass.now) c.args.receiver }

pub bounds-self-place : goal.bounds-self-place
bounds-self-place g c = place_known (key_of c.args.self.now.turns.now).value c.args.self.now.ends.now c.args.self.now.near.now.rows.items c.args.self.now.layout c.args.self.now.number c.requires.table c.args.receiver c.of-place-items.result.now c.of-place-items.ensures c.loop-place.place-index c.loop-place-test.true

pub note_mail_end-requires-clause-pass : goal.note_mail_end-requires-clause-pass
note_mail_end-requires-clause-pass g c κs within = c.loop-place.invariant.pass

pub note_mail_end-requires-clause-end : goal.note_mail_end-requires-clause-end
note_mail_end-requires-clause-end g c κs within = (end_here (key_of c.args.self.now.turns.now).value c.args.self.now.ends.now c.args.self.now.near.now.rows.items c.args.self.now.layout c.args.self.now.number c.requires.table c.args.receiver c.of-place-items.result.now c.of-place-items.ensures c.loop-place.place-index c.loop-place-test.true)

pub note_mail_end-requires-clause-held : goal.note_mail_end-requires-clause-held
note_mail_end-requires-clause-held g c κs within = (let same = c.loop-place.invariant.ends.loaded.places (mail_place (key_of c.args.self.now.turns.now).value c.args.receiver) in let was = c.requires.held in omega (arith, same, was))

pub loop-place-preserved : goal.loop-place-preserved
loop-place-preserved g c = record {
  pass = c.note_mail_end.ensures.pass;
  ends = ends_next (key_of c.args.self.now.turns.now).value receiver_of receiver_of c.of-place-items.result.now (view_of c.args.pass.now) c.args.receiver (view_of c.loop-place.pass) (view_of c.note_mail_end.new.pass) c.loop-place.place-index (get_or c.of-place-items.result.now c.loop-place.place-index 0) (get_or c.args.self.now.ends.now (get_or c.of-place-items.result.now c.loop-place.place-index 0) no_end) (place_here c.of-place-items.result.now c.loop-place.place-index c.loop-place-test.true) (end_there (key_of c.args.self.now.turns.now).value c.args.self.now.ends.now c.args.self.now.near.now.rows.items c.args.self.now.layout c.args.self.now.number c.requires.table c.args.receiver c.of-place-items.result.now c.of-place-items.ensures c.loop-place.place-index c.loop-place-test.true) c.note_mail_end.ensures.loaded c.note_mail_end.ensures.posted c.note_mail_end.ensures.taken c.loop-place.invariant.ends;
}

pub returns-clause-pass : goal.returns-clause-pass
returns-clause-pass g c = c.loop-place.invariant.pass

pub returns-clause-loaded : goal.returns-clause-loaded
returns-clause-loaded g c = c.loop-place.invariant.ends.loaded

pub returns-clause-noted : goal.returns-clause-noted
returns-clause-noted g c = mail_words (key_of c.args.self.now.turns.now).value (note (view_of c.loop-place.pass)) c.args.receiver c.requires.receiver
    (sender_known (g.B.Behaviour.valid (key_of c.args.self.now.turns.now).value.behaviour) (g.B.Behaviour.carried (key_of c.args.self.now.turns.now).value.behaviour) (g.B.Behaviour.reaction (key_of c.args.self.now.turns.now).value.behaviour) (g.met.B.Behaviour.sound (key_of c.args.self.now.turns.now).value.behaviour) (g.met.B.Behaviour.modest (key_of c.args.self.now.turns.now).value.behaviour) (key_of c.args.self.now.turns.now).value c.requires.run) (receiver_known (g.B.Behaviour.valid (key_of c.args.self.now.turns.now).value.behaviour) (g.B.Behaviour.carried (key_of c.args.self.now.turns.now).value.behaviour) (g.B.Behaviour.reaction (key_of c.args.self.now.turns.now).value.behaviour) (g.met.B.Behaviour.sound (key_of c.args.self.now.turns.now).value.behaviour) (g.met.B.Behaviour.modest (key_of c.args.self.now.turns.now).value.behaviour) (key_of c.args.self.now.turns.now).value c.requires.run)
    (λ (k : ℕ) (end : CrossEnd) (found : slice_get (key_of c.args.self.now.turns.now).value.ends k ≡ Some end) is. c.loop-place.invariant.ends.posted k end found is (place_before (key_of c.args.self.now.turns.now).value c.args.self.now.ends.now c.args.self.now.near.now.rows.items c.args.self.now.layout c.args.self.now.number c.requires.table c.args.receiver c.of-place-items.result.now c.of-place-items.ensures c.loop-place.place-index k end c.loop-place-test.false found (inr is))) (λ (k : ℕ) (end : CrossEnd) (found : slice_get (key_of c.args.self.now.turns.now).value.ends k ≡ Some end) is. c.loop-place.invariant.ends.taken k end found is (place_before (key_of c.args.self.now.turns.now).value c.args.self.now.ends.now c.args.self.now.near.now.rows.items c.args.self.now.layout c.args.self.now.number c.requires.table c.args.receiver c.of-place-items.result.now c.of-place-items.ensures c.loop-place.place-index k end c.loop-place-test.false found (inr is)))
