use Rattle.std.proofs.Common.{◌≡◌, sym, ap, ◌∙◌, subst, arith, Some, slice_get}
use Rattle.turn_table.specs.declared.view.View.{View}
use Rattle.turn_table.specs.Passes.{view_of}
use Rattle.turn_table.specs.Turned.{key_of}
use Rattle.turn_table.specs.Shapes.{is_marked}
use Rattle.turn_table.specs.Views.{note, mark, writing}
use Rattle.plan_shares.specs.declared.crosses.CrossEnd.{CrossEnd}
use Rattle.share_rules.specs.Places.{posted_word}
use Rattle.share_rules.proofs.Holding.{posted_unmarked, written_posted}
use Rattle.share_turns.proofs.Views.{wrote_marks}
use Rattle.core_rules.proofs.Lists.{get_known}
use Rattle.share_rules.specs.Held.{KeepsWith}
use Rattle.share_turns.proofs.table.RunTable.write_posted.Goals as goal
use Rattle.std.proofs.Common.{List}

pub write-requires-clause-keeps : goal.write-requires-clause-keeps
write-requires-clause-keeps g c = λ f kept fits above.
    subst (λ w. KeepsWith (g.B.Behaviour.valid (key_of c.args.self.now.turns.now).value.behaviour) (g.B.Behaviour.carried (key_of c.args.self.now.turns.now).value.behaviour) (g.B.Behaviour.reaction (key_of c.args.self.now.turns.now).value.behaviour) (key_of c.args.self.now.turns.now).value (note (view_of c.args.pass.now)) (mark (view_of c.args.pass.now)) w c.args.posted) (sym c.posted.ensures)
    (written_posted (g.B.Behaviour.valid (key_of c.args.self.now.turns.now).value.behaviour) (g.B.Behaviour.carried (key_of c.args.self.now.turns.now).value.behaviour) (g.B.Behaviour.reaction (key_of c.args.self.now.turns.now).value.behaviour) (key_of c.args.self.now.turns.now).value (note (view_of c.args.pass.now)) (mark (view_of c.args.pass.now)) c.args.place c.args.posted (get_known (key_of c.args.self.now.turns.now).value.ends c.args.place c.requires.end.0 (subst (λ (es : List CrossEnd). slice_get es c.args.place ≡ Some c.requires.end.0) c.requires.table.own c.requires.end.1))) f kept (record { noted = fits; above = above })

pub returns-clause-marks : goal.returns-clause-marks
returns-clause-marks g c = λ x.
    (let from = c.requires.end.2 in let known = c.requires.table.known in
    ap (λ (w : View). mark w x) (c.write.ensures.view ∙ ap (λ k. writing (view_of c.args.pass.now) k c.args.posted) c.posted.ensures)
    ∙ wrote_marks (view_of c.args.pass.now) (posted_word (key_of c.args.self.now.turns.now).value c.args.place) c.args.posted (ap (λ s. is_marked s (posted_word (key_of c.args.self.now.turns.now).value c.args.place)) c.requires.pass.shaped ∙ posted_unmarked (key_of c.args.self.now.turns.now).value c.args.place c.requires.end.0 (subst (λ (es : List CrossEnd). slice_get es c.args.place ≡ Some c.requires.end.0) c.requires.table.own c.requires.end.1) (omega (arith, from, known))) x)
