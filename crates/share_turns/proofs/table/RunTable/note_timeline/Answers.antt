use Rattle.std.proofs.Common.{◌≡◌, ℕ, suc, ◌<◌, sym, ap, ◌∙◌, subst, inl, inr, arith, Some, slice_get, get_or}
use Rattle.turn_table.specs.declared.view.View.{View}
use Rattle.turn_table.specs.Passes.{view_of}
use Rattle.turn_table.specs.Turned.{key_of}
use Rattle.turn_table.specs.Shapes.{Speaks, is_marked}
use Rattle.turn_table.specs.Views.{note, mark, reading}
use Rattle.plan_shares.specs.declared.crosses.CrossEnd.{CrossEnd}
use Rattle.share_rules.specs.Places.{posted_word, taken_word, done_word, round_word, shape_of}
use Rattle.share_rules.specs.WordLaws.{words_long, done_of_timeline}
use Rattle.share_rules.proofs.Holding.{round_marked}
use Rattle.share_turns.specs.Loads.{HasLoaded}
use Rattle.share_turns.proofs.Views.{loaded_on, noted_on, loaded_one, loaded_mark}
use Rattle.share_turns.proofs.Words.{timeline_words}
use Rattle.share_turns.proofs.Noting.{sender_of, receiver_of, ends_first, ends_next}
use Rattle.share_turns.proofs.Rows.{place_here, end_here, end_there, place_known, place_before, no_end}
use Rattle.share_turns.proofs.table.RunTable.note_timeline.Goals as goal

pub of-place-items-requires : goal.of-place-items-requires
of-place-items-requires g c = omega (arith, c.requires.table.near.many, c.requires.table.known)

pub loop-place-init : goal.loop-place-init
loop-place-init g c = record { pass = c.requires.pass; ends = ends_first (key_of c.args.self.now.turns.now).value sender_of receiver_of c.of-place-items.result.now (view_of c.args.pass.now) c.args.self.now.number }

pub bounds-self-place : goal.bounds-self-place
bounds-self-place g c = place_known (key_of c.args.self.now.turns.now).value c.args.self.now.ends.now c.args.self.now.near.now.rows.items c.args.self.now.layout c.args.self.now.number c.requires.table c.args.self.now.number c.of-place-items.result.now c.of-place-items.ensures c.loop-place.place-index c.loop-place-test.true

pub note_end-requires-clause-pass : goal.note_end-requires-clause-pass
note_end-requires-clause-pass g c κs within = c.loop-place.invariant.pass

pub note_end-requires-clause-end : goal.note_end-requires-clause-end
note_end-requires-clause-end g c κs within = (end_here (key_of c.args.self.now.turns.now).value c.args.self.now.ends.now c.args.self.now.near.now.rows.items c.args.self.now.layout c.args.self.now.number c.requires.table c.args.self.now.number c.of-place-items.result.now c.of-place-items.ensures c.loop-place.place-index c.loop-place-test.true)

pub note_end-requires-clause-held : goal.note_end-requires-clause-held
note_end-requires-clause-held g c κs within = (let same = c.loop-place.invariant.ends.loaded.places c.args.self.now.number in let was = c.requires.held in omega (arith, same, was))

pub loop-place-preserved : goal.loop-place-preserved
loop-place-preserved g c = record {
  pass = c.note_end.ensures.pass;
  ends = ends_next (key_of c.args.self.now.turns.now).value sender_of receiver_of c.of-place-items.result.now (view_of c.args.pass.now) c.args.self.now.number (view_of c.loop-place.pass) (view_of c.note_end.new.pass) c.loop-place.place-index (get_or c.of-place-items.result.now c.loop-place.place-index 0) (get_or c.args.self.now.ends.now (get_or c.of-place-items.result.now c.loop-place.place-index 0) no_end) (place_here c.of-place-items.result.now c.loop-place.place-index c.loop-place-test.true) (end_there (key_of c.args.self.now.turns.now).value c.args.self.now.ends.now c.args.self.now.near.now.rows.items c.args.self.now.layout c.args.self.now.number c.requires.table c.args.self.now.number c.of-place-items.result.now c.of-place-items.ensures c.loop-place.place-index c.loop-place-test.true) c.note_end.ensures.loaded c.note_end.ensures.posted c.note_end.ensures.taken c.loop-place.invariant.ends;
}

pub note-requires-clause-pass : goal.note-requires-clause-pass
note-requires-clause-pass g c κs within = c.loop-place.invariant.pass

pub note-requires-clause-speaks : goal.note-requires-clause-speaks
note-requires-clause-speaks g c κs within =
    (let ends = c.requires.table.count in let e : c.done.result ≡ done_word (key_of c.args.self.now.turns.now).value c.args.self.now.number = omega (arith, ends, c.done.ensures) in
    let same = c.loop-place.invariant.ends.loaded.places c.args.self.now.number in let was = c.requires.held in
    (c.args.self.now.number, subst (λ w. Speaks (shape_of (key_of c.args.self.now.turns.now).value) w c.args.self.now.number) (sym e) (done_of_timeline (key_of c.args.self.now.turns.now).value c.args.self.now.number c.requires.table.known), omega (arith, same, was)))

pub load-requires-clause-word : goal.load-requires-clause-word
load-requires-clause-word g c = (let many = words_long (key_of c.args.self.now.turns.now).value in let ends = c.requires.table.count in let lines = c.requires.table.timelines in omega (arith, many, ends, lines, c.round.ensures))

pub returns-clause-loaded : goal.returns-clause-loaded
returns-clause-loaded g c =
    loaded_on (view_of c.args.pass.now) (view_of c.note.new.pass) (view_of c.load.new.pass) (loaded_on (view_of c.args.pass.now) (view_of c.loop-place.pass) (view_of c.note.new.pass) c.loop-place.invariant.ends.loaded c.note.ensures.loaded) (subst (λ (x : View). HasLoaded (view_of c.note.new.pass) x) (sym c.load.ensures.view) (loaded_one (view_of c.note.new.pass) c.round.result c.load.result c.load.ensures.mark c.load.ensures.note))

pub returns-clause-noted : goal.returns-clause-noted
returns-clause-noted g c =
    (let ends = c.requires.table.count in let e : c.done.result ≡ done_word (key_of c.args.self.now.turns.now).value c.args.self.now.number = omega (arith, ends, c.done.ensures) in
    λ x says. noted_on (view_of c.note.new.pass) (view_of c.load.new.pass) x (subst (λ (x : View). HasLoaded (view_of c.note.new.pass) x) (sym c.load.ensures.view) (loaded_one (view_of c.note.new.pass) c.round.result c.load.result c.load.ensures.mark c.load.ensures.note))
    (timeline_words (key_of c.args.self.now.turns.now).value (note (view_of c.note.new.pass)) c.args.self.now.number c.requires.table.known
    (λ (k : ℕ) (end : CrossEnd) (found : slice_get (key_of c.args.self.now.turns.now).value.ends k ≡ Some end) is. noted_on (view_of c.loop-place.pass) (view_of c.note.new.pass) (posted_word (key_of c.args.self.now.turns.now).value k) c.note.ensures.loaded (c.loop-place.invariant.ends.posted k end found is (place_before (key_of c.args.self.now.turns.now).value c.args.self.now.ends.now c.args.self.now.near.now.rows.items c.args.self.now.layout c.args.self.now.number c.requires.table c.args.self.now.number c.of-place-items.result.now c.of-place-items.ensures c.loop-place.place-index k end c.loop-place-test.false found (inl is))))
    (λ (k : ℕ) (end : CrossEnd) (found : slice_get (key_of c.args.self.now.turns.now).value.ends k ≡ Some end) is. noted_on (view_of c.loop-place.pass) (view_of c.note.new.pass) (taken_word (key_of c.args.self.now.turns.now).value k) c.note.ensures.loaded (c.loop-place.invariant.ends.taken k end found is (place_before (key_of c.args.self.now.turns.now).value c.args.self.now.ends.now c.args.self.now.near.now.rows.items c.args.self.now.layout c.args.self.now.number c.requires.table c.args.self.now.number c.of-place-items.result.now c.of-place-items.ensures c.loop-place.place-index k end c.loop-place-test.false found (inr is))))
    (subst (λ w. 0 < note (view_of c.note.new.pass) w) e c.note.ensures.noted) x says))

pub returns-clause-marked : goal.returns-clause-marked
returns-clause-marked g c =
    (let is : mark (view_of c.load.new.pass) (round_word (key_of c.args.self.now.turns.now).value) ≡ suc c.load.result = ap (λ (w : View). mark w (round_word (key_of c.args.self.now.turns.now).value)) (c.load.ensures.view ∙ ap (λ k. reading (view_of c.note.new.pass) k c.load.result) (let ends = c.requires.table.count in let lines = c.requires.table.timelines in let e : c.round.result ≡ round_word (key_of c.args.self.now.turns.now).value = omega (arith, ends, lines, c.round.ensures) in e))
    ∙ loaded_mark (view_of c.note.new.pass) (round_word (key_of c.args.self.now.turns.now).value) c.load.result (ap (λ s. is_marked s (round_word (key_of c.args.self.now.turns.now).value)) c.note.ensures.pass.shaped ∙ round_marked (key_of c.args.self.now.turns.now).value) in omega (arith, is))
