use Rattle.std.proofs.Common.{◌≡◌, sym, subst, arith, Some, slice_get}
use Rattle.turn_table.specs.Turned.{key_of}
use Rattle.turn_table.specs.Shapes.{Speaks}
use Rattle.plan_shares.specs.declared.crosses.CrossEnd.{CrossEnd}
use Rattle.share_rules.specs.Places.{mail_place, taken_word, shape_of}
use Rattle.share_rules.specs.WordLaws.{taken_of_mail}
use Rattle.share_turns.proofs.table.RunTable.note_mail_end.Goals as goal
use Rattle.std.proofs.Common.{List}

pub note-requires-then-end-receiver-clause-speaks : goal.note-requires-then-end-receiver-clause-speaks
note-requires-then-end-receiver-clause-speaks g c κs within =
    (let ends = c.requires.table.count in let e : c.taken.result ≡ taken_word (key_of c.args.self.now.turns.now).value c.args.place = omega (arith, ends, c.taken.ensures) in
    let same = c.note.ensures.loaded.places (mail_place (key_of c.args.self.now.turns.now).value c.args.receiver) in let was = c.requires.held in (
      mail_place (key_of c.args.self.now.turns.now).value c.args.receiver,
      subst (λ w. Speaks (shape_of (key_of c.args.self.now.turns.now).value) w (mail_place (key_of c.args.self.now.turns.now).value c.args.receiver)) (sym e)
          (subst (λ p. Speaks (shape_of (key_of c.args.self.now.turns.now).value) (taken_word (key_of c.args.self.now.turns.now).value c.args.place) (mail_place (key_of c.args.self.now.turns.now).value p)) c.if-end-receiver.true (taken_of_mail (key_of c.args.self.now.turns.now).value c.args.place c.args.end.now (subst (λ (es : List CrossEnd). slice_get es c.args.place ≡ Some c.args.end.now) c.requires.table.own c.requires.end))),
      omega (arith, same, was),
    ))
