use Rattle.std.proofs.Common.{sym, ap, ◌∙◌, subst}
use Rattle.turn_table.specs.declared.view.View.{View}
use Rattle.turn_table.specs.Passes.{view_of}
use Rattle.turn_table.specs.Turned.{key_of}
use Rattle.turn_table.specs.Views.{note, mark, moving_out}
use Rattle.share_turns.specs.Holdings.{HasTimeline}
use Rattle.share_turns.proofs.Shares.{timeline_out}
use Rattle.share_turns.proofs.table.RunTable.bring_timeline.Goals as goal
use Rattle.share_rules.specs.Held.{IsTold}
use Rattle.share_turns.specs.Shares.{share_of}

pub returns-clause-has : goal.returns-clause-has
returns-clause-has g c =
    subst (λ (w : View). HasTimeline g.B.Behaviour.valid g.B.Behaviour.carried g.B.Behaviour.reaction (key_of c.args.self.now.turns.now).value w c.args.self.now.number c.bring.result) (sym (c.bring.ensures.view ∙ ap (λ k. moving_out (view_of c.note_timeline.new.pass) k) c.requires.turn))
    (timeline_out g.B.Behaviour.valid g.B.Behaviour.carried g.B.Behaviour.reaction (key_of c.args.self.now.turns.now).value (view_of c.note_timeline.new.pass) c.args.self.now.number c.bring.result c.requires.table.known (c.bring.ensures.place ∙ c.requires.turn)
    (subst (λ k. IsTold (g.B.Behaviour.valid (key_of c.args.self.now.turns.now).value.behaviour) (g.B.Behaviour.carried (key_of c.args.self.now.turns.now).value.behaviour) (g.B.Behaviour.reaction (key_of c.args.self.now.turns.now).value.behaviour) (key_of c.args.self.now.turns.now).value (note (view_of c.note_timeline.new.pass)) (mark (view_of c.note_timeline.new.pass)) k (share_of c.bring.result.value)) c.requires.turn (let t = c.bring.ensures.value in record { sound = t.sound; marked = t.marked; counts = t.owing.counts; kept = t.owing.kept; meets = record { noted = t.owing.fits; above = t.owing.above }; owed = t.owing.owed }))
    c.note_timeline.ensures.noted c.note_timeline.ensures.marked (λ q ne. c.note_timeline.ensures.loaded.places q ∙ c.requires.others q ne))
