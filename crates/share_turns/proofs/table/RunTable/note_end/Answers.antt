use Rattle.std.proofs.Common.{◌≡◌, ◌<◌, sym, subst, arith, Some, slice_get}
use Rattle.turn_table.specs.Turned.{key_of}
use Rattle.turn_table.specs.Shapes.{Speaks}
use Rattle.plan_shares.specs.declared.crosses.CrossEnd.{CrossEnd}
use Rattle.share_rules.specs.Places.{taken_word, shape_of}
use Rattle.share_rules.specs.WordLaws.{taken_of_receiver}
use Rattle.share_turns.proofs.table.RunTable.note_end.Goals as goal
use Rattle.std.proofs.Common.{List}
use Rattle.share_turns.proofs.table.RunTable.note_end.Goals.{then-end-self, else-end-self}
use Rattle.turn_table.specs.declared.pass.Pass.{Pass}
use Rattle.turn_table.specs.Passes.{holds_at}

pub note-requires-then-end-self-2-clause-speaks : goal.note-requires-then-end-self-2-clause-speaks
note-requires-then-end-self-2-clause-speaks g c κs within =
    (let ends = c.requires.table.count in let e : c.taken.result ≡ taken_word (key_of c.args.self.now.turns.now).value c.args.place = omega (arith, ends, c.taken.ensures) in (
      c.args.self.now.number,
      subst (λ w. Speaks (shape_of (key_of c.args.self.now.turns.now).value) w c.args.self.now.number) (sym e) (subst (λ p. Speaks (shape_of (key_of c.args.self.now.turns.now).value) (taken_word (key_of c.args.self.now.turns.now).value c.args.place) p) c.if-end-self-2.true (taken_of_receiver (key_of c.args.self.now.turns.now).value c.args.place c.args.end.now (subst (λ (es : List CrossEnd). slice_get es c.args.place ≡ Some c.args.end.now) c.requires.table.own c.requires.end))),
      elim c.if-end-self.branch [
        | then-end-self w ↦ (let same = w.note.ensures.loaded.places c.args.self.now.number in let was = c.requires.held in subst (λ (p : Pass). 0 < holds_at p c.args.self.now.number) (sym w.pass-is) (omega (arith, same, was)))
        | else-end-self w ↦ subst (λ (p : Pass). 0 < holds_at p c.args.self.now.number) (sym w.pass-is) c.requires.held
      ],
    ))
