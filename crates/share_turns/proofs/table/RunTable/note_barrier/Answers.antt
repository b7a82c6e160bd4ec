use Rattle.std.proofs.Common.{◌≡◌, ◌+◌, ◌<◌, sym, ap, ◌∙◌, subst, arith}
use Rattle.turn_table.specs.declared.view.View.{View}
use Rattle.turn_table.specs.Passes.{view_of}
use Rattle.turn_table.specs.Turned.{key_of}
use Rattle.turn_table.specs.Shapes.{Speaks}
use Rattle.turn_table.specs.Views.{note}
use Rattle.share_rules.specs.Places.{barrier_place, round_word, shape_of}
use Rattle.share_rules.specs.WordLaws.{round_of_barrier}
use Rattle.share_turns.specs.Loads.{HasLoaded, AreDoneMarked}
use Rattle.share_turns.proofs.Views.{loaded_all}
use Rattle.share_turns.proofs.Noting.{done_all}
use Rattle.share_turns.proofs.table.RunTable.note_barrier.Goals as goal

pub note-requires-clause-speaks : goal.note-requires-clause-speaks
note-requires-clause-speaks g c κs within = (barrier_place (key_of c.args.self.now.turns.now).value, subst (λ w. Speaks (shape_of (key_of c.args.self.now.turns.now).value) w (barrier_place (key_of c.args.self.now.turns.now).value)) (sym (let ends = c.requires.table.count in let lines = c.requires.table.timelines in let e : c.round.result ≡ round_word (key_of c.args.self.now.turns.now).value = omega (arith, ends, lines, c.round.ensures) in e)) (round_of_barrier (key_of c.args.self.now.turns.now).value), c.requires.held)

pub returns-clause-loaded : goal.returns-clause-loaded
returns-clause-loaded g c = let m = c.mark.ensures.marks in
    subst (HasLoaded (view_of c.args.pass.now)) (sym m.3) (loaded_all (view_of c.args.pass.now) (view_of c.note.new.pass) m.0 c.note.ensures.loaded m.2)

pub returns-clause-marked : goal.returns-clause-marked
returns-clause-marked g c = let m = c.mark.ensures.marks in
    subst (AreDoneMarked (key_of c.args.self.now.turns.now).value (view_of c.args.pass.now)) (sym m.3)
    (done_all (key_of c.args.self.now.turns.now).value (view_of c.args.pass.now) (view_of c.note.new.pass) m.0 c.note.ensures.pass.shaped c.note.ensures.loaded (subst (λ w. 0 < note (view_of c.note.new.pass) w) (let ends = c.requires.table.count in let lines = c.requires.table.timelines in let e : c.round.result ≡ round_word (key_of c.args.self.now.turns.now).value = omega (arith, ends, lines, c.round.ensures) in e) c.note.ensures.noted) m.1)
