use Rattle.std.proofs.Common.{◌≡◌, ℕ, sym, ap, ◌∙◌, subst, arith}
use Rattle.turn_table.specs.declared.view.View.{View}
use Rattle.turn_table.specs.Passes.{view_of}
use Rattle.turn_table.specs.Turned.{key_of}
use Rattle.turn_table.specs.Shapes.{spoken}
use Rattle.turn_table.specs.Views.{held, note, mark, writing}
use Rattle.share_rules.specs.Places.{done_word, shape_of}
use Rattle.share_rules.specs.WordLaws.{words_long, done_speaks}
use Rattle.share_rules.proofs.Holding.{written_done}
use Rattle.share_turns.specs.Holdings.{IsTimelineBy}
use Rattle.share_turns.proofs.Stays.{done_written}
use Rattle.share_rules.specs.Held.{KeepsWith}
use Rattle.share_turns.proofs.table.RunTable.write_done.Goals as goal

pub write-requires-clause-word : goal.write-requires-clause-word
write-requires-clause-word g c = (let many = words_long (key_of c.args.self.now.turns.now).value in let known = c.requires.table.known in let ends = c.requires.table.count in omega (arith, many, known, ends, c.done.ensures))

pub write-requires-clause-first : goal.write-requires-clause-first
write-requires-clause-first g c = ap (λ w. held (view_of c.args.pass.now) (spoken (shape_of (key_of c.args.self.now.turns.now).value) w).0) (let ends = c.requires.table.count in let e : c.done.result ≡ done_word (key_of c.args.self.now.turns.now).value c.args.self.now.number = omega (arith, ends, c.done.ensures) in e) ∙ (ap (λ (x : ℕ × ℕ). held (view_of c.args.pass.now) x.0) (done_speaks (key_of c.args.self.now.turns.now).value c.args.self.now.number c.requires.table.known) ∙ c.requires.held)

pub write-requires-clause-second : goal.write-requires-clause-second
write-requires-clause-second g c = ap (λ w. held (view_of c.args.pass.now) (spoken (shape_of (key_of c.args.self.now.turns.now).value) w).1) (let ends = c.requires.table.count in let e : c.done.result ≡ done_word (key_of c.args.self.now.turns.now).value c.args.self.now.number = omega (arith, ends, c.done.ensures) in e) ∙ (ap (λ (x : ℕ × ℕ). held (view_of c.args.pass.now) x.1) (done_speaks (key_of c.args.self.now.turns.now).value c.args.self.now.number c.requires.table.known) ∙ c.requires.held)

pub write-requires-clause-keeps : goal.write-requires-clause-keeps
write-requires-clause-keeps g c = λ f kept fits above.
    subst (λ w. KeepsWith (g.B.Behaviour.valid (key_of c.args.self.now.turns.now).value.behaviour) (g.B.Behaviour.carried (key_of c.args.self.now.turns.now).value.behaviour) (g.B.Behaviour.reaction (key_of c.args.self.now.turns.now).value.behaviour) (key_of c.args.self.now.turns.now).value (note (view_of c.args.pass.now)) (mark (view_of c.args.pass.now)) w c.args.done) (sym (let ends = c.requires.table.count in let e : c.done.result ≡ done_word (key_of c.args.self.now.turns.now).value c.args.self.now.number = omega (arith, ends, c.done.ensures) in e))
    (written_done (g.B.Behaviour.valid (key_of c.args.self.now.turns.now).value.behaviour) (g.B.Behaviour.carried (key_of c.args.self.now.turns.now).value.behaviour) (g.B.Behaviour.reaction (key_of c.args.self.now.turns.now).value.behaviour) (key_of c.args.self.now.turns.now).value (note (view_of c.args.pass.now)) (mark (view_of c.args.pass.now)) c.args.self.now.number c.args.done c.requires.table.known c.requires.noted c.requires.rises) f kept (record { noted = fits; above = above })

pub returns-clause-so : goal.returns-clause-so
returns-clause-so g c = λ t q noted is.
    subst (λ (w : View). IsTimelineBy g.B.Behaviour.valid g.B.Behaviour.carried g.B.Behaviour.reaction (key_of c.args.self.now.turns.now).value w c.args.self.now.number t) (sym (c.write.ensures.view ∙ ap (λ k. writing (view_of c.args.pass.now) k c.args.done) (let ends = c.requires.table.count in let e : c.done.result ≡ done_word (key_of c.args.self.now.turns.now).value c.args.self.now.number = omega (arith, ends, c.done.ensures) in e)))
    (done_written g.B.Behaviour.valid g.B.Behaviour.carried g.B.Behaviour.reaction (key_of c.args.self.now.turns.now).value (view_of c.args.pass.now) c.args.self.now.number c.args.done t q noted is)
