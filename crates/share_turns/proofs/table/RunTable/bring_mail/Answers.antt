use Rattle.std.proofs.Common.{◌≡◌, sym, ap, ◌∙◌, subst, arith}
use Rattle.turn_table.specs.declared.view.View.{View}
use Rattle.turn_table.specs.Passes.{view_of}
use Rattle.turn_table.specs.Turned.{key_of}
use Rattle.turn_table.specs.Views.{note, mark, taking, moving_out}
use Rattle.share_rules.specs.Places.{mail_place}
use Rattle.share_turns.specs.Holdings.{StaysBy, HasMail}
use Rattle.share_turns.specs.Loads.{HasLoaded}
use Rattle.share_turns.proofs.Stays.{stays_lost, stays_out}
use Rattle.share_turns.proofs.Shares.{mail_out}
use Rattle.share_turns.proofs.table.RunTable.bring_mail.Goals as goal
use Rattle.share_rules.specs.Held.{IsTold}
use Rattle.share_turns.specs.Shares.{share_of}

pub returns-in_err-turn-clause-stays : goal.returns-in_err-turn-clause-stays
returns-in_err-turn-clause-stays g c =
    subst (λ (w : View). StaysBy g.B.Behaviour.valid g.B.Behaviour.carried g.B.Behaviour.reaction (key_of c.args.self.now.turns.now).value (view_of c.args.pass.now) w c.args.self.now.number) (sym c.in_err-turn.ensures.turn) (stays_lost g.B.Behaviour.valid g.B.Behaviour.carried g.B.Behaviour.reaction (key_of c.args.self.now.turns.now).value (view_of c.args.pass.now) c.mail.result c.args.self.now.number)

pub returns-clause-mail : goal.returns-clause-mail
returns-clause-mail g c =
    subst (λ (w : View). HasMail g.B.Behaviour.valid g.B.Behaviour.carried g.B.Behaviour.reaction (key_of c.args.self.now.turns.now).value (view_of c.args.pass.now) w c.args.self.now.number c.args.receiver c.bring.result) (sym (c.bring.ensures.view ∙ ap (λ k. moving_out (view_of c.note_mail.new.pass) k) (c.in_ok-turn.ensures.turn.0 ∙ (let lines = c.requires.table.timelines in let e : c.mail.result ≡ mail_place (key_of c.args.self.now.turns.now).value c.args.receiver = omega (arith, lines, c.mail.ensures) in e))))
    (mail_out g.B.Behaviour.valid g.B.Behaviour.carried g.B.Behaviour.reaction (key_of c.args.self.now.turns.now).value (view_of c.args.pass.now) (view_of c.note_mail.new.pass) c.args.self.now.number c.requires.pass.shaped c.requires.table.known c.requires.holds c.args.receiver c.requires.receiver (subst (λ (w : View). HasLoaded w (view_of c.note_mail.new.pass)) (c.in_ok-turn.ensures.turn.1 ∙ ap (λ k. taking (view_of c.args.pass.now) k) (let lines = c.requires.table.timelines in let e : c.mail.result ≡ mail_place (key_of c.args.self.now.turns.now).value c.args.receiver = omega (arith, lines, c.mail.ensures) in e)) c.note_mail.ensures.loaded) c.note_mail.ensures.noted c.bring.result (c.bring.ensures.place ∙ (c.in_ok-turn.ensures.turn.0 ∙ (let lines = c.requires.table.timelines in let e : c.mail.result ≡ mail_place (key_of c.args.self.now.turns.now).value c.args.receiver = omega (arith, lines, c.mail.ensures) in e))) (subst (λ k. IsTold (g.B.Behaviour.valid (key_of c.args.self.now.turns.now).value.behaviour) (g.B.Behaviour.carried (key_of c.args.self.now.turns.now).value.behaviour) (g.B.Behaviour.reaction (key_of c.args.self.now.turns.now).value.behaviour) (key_of c.args.self.now.turns.now).value (note (view_of c.note_mail.new.pass)) (mark (view_of c.note_mail.new.pass)) k (share_of c.bring.result.value)) (c.in_ok-turn.ensures.turn.0 ∙ (let lines = c.requires.table.timelines in let e : c.mail.result ≡ mail_place (key_of c.args.self.now.turns.now).value c.args.receiver = omega (arith, lines, c.mail.ensures) in e)) (let t = c.bring.ensures.value in record { sound = t.sound; marked = t.marked; counts = t.owing.counts; kept = t.owing.kept; meets = record { noted = t.owing.fits; above = t.owing.above }; owed = t.owing.owed })))

pub returns-clause-stays : goal.returns-clause-stays
returns-clause-stays g c =
    subst (λ (w : View). StaysBy g.B.Behaviour.valid g.B.Behaviour.carried g.B.Behaviour.reaction (key_of c.args.self.now.turns.now).value (view_of c.args.pass.now) w c.args.self.now.number) (sym (c.bring.ensures.view ∙ ap (λ k. moving_out (view_of c.note_mail.new.pass) k) (c.in_ok-turn.ensures.turn.0 ∙ (let lines = c.requires.table.timelines in let e : c.mail.result ≡ mail_place (key_of c.args.self.now.turns.now).value c.args.receiver = omega (arith, lines, c.mail.ensures) in e))))
    (stays_out g.B.Behaviour.valid g.B.Behaviour.carried g.B.Behaviour.reaction (key_of c.args.self.now.turns.now).value (view_of c.args.pass.now) (view_of c.note_mail.new.pass) (mail_place (key_of c.args.self.now.turns.now).value c.args.receiver) c.args.self.now.number c.requires.pass.shaped (omega arith) (subst (λ (w : View). HasLoaded w (view_of c.note_mail.new.pass)) (c.in_ok-turn.ensures.turn.1 ∙ ap (λ k. taking (view_of c.args.pass.now) k) (let lines = c.requires.table.timelines in let e : c.mail.result ≡ mail_place (key_of c.args.self.now.turns.now).value c.args.receiver = omega (arith, lines, c.mail.ensures) in e)) c.note_mail.ensures.loaded))
