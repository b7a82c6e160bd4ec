use Rattle.std.proofs.Common.{sym, subst, arith}
use Rattle.turn_table.specs.declared.view.View.{View}
use Rattle.turn_table.specs.Passes.{view_of}
use Rattle.turn_table.specs.Turned.{key_of}
use Rattle.share_turns.specs.Holdings.{StaysBy}
use Rattle.share_turns.proofs.Stays.{stays_given}
use Rattle.share_turns.proofs.Shares.{barrier_home}
use Rattle.share_turns.proofs.table.RunTable.give_barrier.Goals as goal

pub give-requires-clause-pays : goal.give-requires-clause-pays
give-requires-clause-pays g c = (let q = barrier_home g.B.Behaviour.valid g.B.Behaviour.carried g.B.Behaviour.reaction (key_of c.args.self.now.turns.now).value (view_of c.args.pass.now) c.args.barrier c.requires.barrier.0 c.requires.barrier.1 c.requires.barrier.2 in record { sound = q.sound; marked = q.marked; owed = λ f kept fits above. q.owed f kept (record { noted = fits; above = above }) })

pub returns-clause-stays : goal.returns-clause-stays
returns-clause-stays g c =
    let place = c.requires.barrier.1.place in let known = c.requires.table.known in let two = c.requires.holds.first in
    subst (λ (w : View). StaysBy g.B.Behaviour.valid g.B.Behaviour.carried g.B.Behaviour.reaction (key_of c.args.self.now.turns.now).value (view_of c.args.pass.now) w c.args.self.now.number) (sym c.give.ensures.view)
    (stays_given g.B.Behaviour.valid g.B.Behaviour.carried g.B.Behaviour.reaction (key_of c.args.self.now.turns.now).value (view_of c.args.pass.now) c.args.barrier.place c.args.self.now.number c.requires.pass.shaped (λ e. omega (arith, e, place, known)) (omega (arith, two)))
