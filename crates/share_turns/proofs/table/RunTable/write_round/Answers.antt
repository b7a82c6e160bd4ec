use Rattle.std.proofs.Common.{◌≡◌, ℕ, sym, ap, ◌∙◌, subst, arith}
use Rattle.turn_table.specs.declared.view.View.{View}
use Rattle.turn_table.specs.Passes.{view_of}
use Rattle.turn_table.specs.Turned.{key_of}
use Rattle.turn_table.specs.Shapes.{spoken, is_marked}
use Rattle.turn_table.specs.Views.{held, note, mark, writing}
use Rattle.share_rules.specs.Places.{round_word, shape_of}
use Rattle.share_rules.specs.WordLaws.{words_long, round_speaks}
use Rattle.share_rules.proofs.Holding.{round_marked}
use Rattle.share_turns.proofs.Views.{wrote_mark}
use Rattle.share_rules.specs.Held.{KeepsWith}
use Rattle.share_turns.proofs.table.RunTable.write_round.Goals as goal

pub write-requires-clause-word : goal.write-requires-clause-word
write-requires-clause-word g c = (let many = words_long (key_of c.args.self.now.turns.now).value in let ends = c.requires.table.count in let lines = c.requires.table.timelines in omega (arith, many, ends, lines, c.round.ensures))

pub write-requires-clause-first : goal.write-requires-clause-first
write-requires-clause-first g c = ap (λ w. held (view_of c.args.pass.now) (spoken (shape_of (key_of c.args.self.now.turns.now).value) w).0) (let ends = c.requires.table.count in let lines = c.requires.table.timelines in let e : c.round.result ≡ round_word (key_of c.args.self.now.turns.now).value = omega (arith, ends, lines, c.round.ensures) in e) ∙ (ap (λ (x : ℕ × ℕ). held (view_of c.args.pass.now) x.0) (round_speaks (key_of c.args.self.now.turns.now).value) ∙ c.requires.held)

pub write-requires-clause-second : goal.write-requires-clause-second
write-requires-clause-second g c = ap (λ w. held (view_of c.args.pass.now) (spoken (shape_of (key_of c.args.self.now.turns.now).value) w).1) (let ends = c.requires.table.count in let lines = c.requires.table.timelines in let e : c.round.result ≡ round_word (key_of c.args.self.now.turns.now).value = omega (arith, ends, lines, c.round.ensures) in e) ∙ (ap (λ (x : ℕ × ℕ). held (view_of c.args.pass.now) x.1) (round_speaks (key_of c.args.self.now.turns.now).value) ∙ c.requires.held)

pub write-requires-clause-keeps : goal.write-requires-clause-keeps
write-requires-clause-keeps g c = λ f kept fits above.
    subst (λ w. KeepsWith (g.B.Behaviour.valid (key_of c.args.self.now.turns.now).value.behaviour) (g.B.Behaviour.carried (key_of c.args.self.now.turns.now).value.behaviour) (g.B.Behaviour.reaction (key_of c.args.self.now.turns.now).value.behaviour) (key_of c.args.self.now.turns.now).value (note (view_of c.args.pass.now)) (mark (view_of c.args.pass.now)) w c.args.round) (sym (let ends = c.requires.table.count in let lines = c.requires.table.timelines in let e : c.round.result ≡ round_word (key_of c.args.self.now.turns.now).value = omega (arith, ends, lines, c.round.ensures) in e)) c.requires.keeps f kept (record { noted = fits; above = above })

pub returns-clause-round : goal.returns-clause-round
returns-clause-round g c =
    ap (λ (w : View). mark w (round_word (key_of c.args.self.now.turns.now).value)) (c.write.ensures.view ∙ ap (λ k. writing (view_of c.args.pass.now) k c.args.round) (let ends = c.requires.table.count in let lines = c.requires.table.timelines in let e : c.round.result ≡ round_word (key_of c.args.self.now.turns.now).value = omega (arith, ends, lines, c.round.ensures) in e))
    ∙ wrote_mark (view_of c.args.pass.now) (round_word (key_of c.args.self.now.turns.now).value) c.args.round (ap (λ s. is_marked s (round_word (key_of c.args.self.now.turns.now).value)) c.requires.pass.shaped ∙ round_marked (key_of c.args.self.now.turns.now).value)
