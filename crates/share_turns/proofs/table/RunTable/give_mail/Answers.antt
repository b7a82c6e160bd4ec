use Rattle.std.proofs.Common.{sym, subst, arith}
use Rattle.turn_table.specs.declared.view.View.{View}
use Rattle.turn_table.specs.Passes.{view_of}
use Rattle.turn_table.specs.Turned.{key_of}
use Rattle.share_turns.specs.Holdings.{StaysBy}
use Rattle.share_turns.proofs.Stays.{stays_given}
use Rattle.share_turns.proofs.table.RunTable.give_mail.Goals as goal

pub returns-clause-stays : goal.returns-clause-stays
returns-clause-stays g c =
    let place = c.requires.mail.1.place in let known = c.requires.table.known in let two = c.requires.holds.first in
    subst (λ (w : View). StaysBy g.B.Behaviour.valid g.B.Behaviour.carried g.B.Behaviour.reaction (key_of c.args.self.now.turns.now).value (view_of c.args.pass.now) w c.args.self.now.number) (sym c.give.ensures.view)
    (stays_given g.B.Behaviour.valid g.B.Behaviour.carried g.B.Behaviour.reaction (key_of c.args.self.now.turns.now).value (view_of c.args.pass.now) c.args.mail.place c.args.self.now.number c.requires.pass.shaped (λ e. omega (arith, e, place, known)) (omega (arith, two)))
