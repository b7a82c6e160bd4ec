use Rattle.std.proofs.Common.{◌≡◌, ℕ, sym, ap, ◌∙◌, subst, arith, Some, slice_get}
use Rattle.turn_table.specs.Passes.{view_of}
use Rattle.turn_table.specs.Turned.{key_of}
use Rattle.turn_table.specs.Shapes.{spoken}
use Rattle.turn_table.specs.Views.{held, note, mark}
use Rattle.plan_shares.specs.declared.crosses.CrossEnd.{CrossEnd}
use Rattle.share_rules.specs.Places.{mail_place, taken_word, shape_of}
use Rattle.share_rules.specs.WordLaws.{taken_speaks}
use Rattle.share_rules.proofs.Holding.{written_taken}
use Rattle.core_rules.proofs.Lists.{get_known}
use Rattle.share_rules.specs.Held.{KeepsWith}
use Rattle.share_turns.proofs.table.RunTable.write_taken_on.Goals as goal
use Rattle.std.proofs.Common.{List}

pub write-requires-clause-first : goal.write-requires-clause-first
write-requires-clause-first g c = ap (λ w. held (view_of c.args.pass.now) (spoken (shape_of (key_of c.args.self.now.turns.now).value) w).0) (let ends = c.requires.table.count in let e : c.taken.result ≡ taken_word (key_of c.args.self.now.turns.now).value c.args.place = omega (arith, ends, c.taken.ensures) in e) ∙ (ap (λ (x : ℕ × ℕ). held (view_of c.args.pass.now) x.0) (taken_speaks (key_of c.args.self.now.turns.now).value c.args.place c.args.end.now (subst (λ (es : List CrossEnd). slice_get es c.args.place ≡ Some c.args.end.now) c.requires.table.own c.requires.end)) ∙ (ap (λ k. held (view_of c.args.pass.now) (mail_place (key_of c.args.self.now.turns.now).value k)) c.if-end-self.true ∙ c.requires.holds.second))

pub write-requires-clause-second : goal.write-requires-clause-second
write-requires-clause-second g c = ap (λ w. held (view_of c.args.pass.now) (spoken (shape_of (key_of c.args.self.now.turns.now).value) w).1) (let ends = c.requires.table.count in let e : c.taken.result ≡ taken_word (key_of c.args.self.now.turns.now).value c.args.place = omega (arith, ends, c.taken.ensures) in e) ∙ (ap (λ (x : ℕ × ℕ). held (view_of c.args.pass.now) x.1) (taken_speaks (key_of c.args.self.now.turns.now).value c.args.place c.args.end.now (subst (λ (es : List CrossEnd). slice_get es c.args.place ≡ Some c.args.end.now) c.requires.table.own c.requires.end)) ∙ (ap (λ k. held (view_of c.args.pass.now) k) c.if-end-self.true ∙ c.requires.holds.first))

pub write-requires-clause-keeps : goal.write-requires-clause-keeps
write-requires-clause-keeps g c = λ f kept fits above.
    subst (λ w. KeepsWith (g.B.Behaviour.valid (key_of c.args.self.now.turns.now).value.behaviour) (g.B.Behaviour.carried (key_of c.args.self.now.turns.now).value.behaviour) (g.B.Behaviour.reaction (key_of c.args.self.now.turns.now).value.behaviour) (key_of c.args.self.now.turns.now).value (note (view_of c.args.pass.now)) (mark (view_of c.args.pass.now)) w c.taken-then-end-self.result) (sym (let ends = c.requires.table.count in let e : c.taken.result ≡ taken_word (key_of c.args.self.now.turns.now).value c.args.place = omega (arith, ends, c.taken.ensures) in e))
    (written_taken (g.B.Behaviour.valid (key_of c.args.self.now.turns.now).value.behaviour) (g.B.Behaviour.carried (key_of c.args.self.now.turns.now).value.behaviour) (g.B.Behaviour.reaction (key_of c.args.self.now.turns.now).value.behaviour) (key_of c.args.self.now.turns.now).value (note (view_of c.args.pass.now)) (mark (view_of c.args.pass.now)) c.args.place c.taken-then-end-self.result (get_known (key_of c.args.self.now.turns.now).value.ends c.args.place c.args.end.now (subst (λ (es : List CrossEnd). slice_get es c.args.place ≡ Some c.args.end.now) c.requires.table.own c.requires.end))) f kept (record { noted = fits; above = above })
