use Rattle.std.proofs.Common.{sym, ap, ◌∙◌, subst}
use Rattle.turn_table.specs.declared.view.View.{View}
use Rattle.turn_table.specs.Passes.{view_of}
use Rattle.turn_table.specs.Turned.{key_of}
use Rattle.turn_table.specs.Views.{held}
use Rattle.share_turns.specs.Holdings.{HoldsOne}
use Rattle.share_turns.proofs.Views.{given_none}
use Rattle.share_turns.proofs.Shares.{timeline_home}
use Rattle.share_turns.proofs.table.RunTable.give_timeline.Goals as goal

pub give-requires-clause-pays : goal.give-requires-clause-pays
give-requires-clause-pays g c = (let q = timeline_home g.B.Behaviour.valid g.B.Behaviour.carried g.B.Behaviour.reaction (key_of c.args.self.now.turns.now).value (view_of c.args.pass.now) c.args.self.now.number c.args.own c.requires.has.timeline c.requires.has.out c.requires.has.so in record { sound = q.sound; marked = q.marked; owed = λ f kept fits above. q.owed f kept (record { noted = fits; above = above }) })

pub returns-clause-free : goal.returns-clause-free
returns-clause-free g c = λ p.
    ap (λ (w : View). held w p) c.give.ensures.view
    ∙ given_none (view_of c.args.pass.now) c.args.own.place (subst (λ k. HoldsOne (view_of c.args.pass.now) k) (sym c.requires.has.out.place) c.requires.has.holds) p
