use Rattle.std.proofs.Common.{◌≡◌, sym, ap, ◌∙◌, subst, arith}
use Rattle.turn_table.specs.declared.view.View.{View}
use Rattle.turn_table.specs.Passes.{view_of}
use Rattle.turn_table.specs.Turned.{key_of}
use Rattle.turn_table.specs.Views.{note, mark, taking, moving_out}
use Rattle.share_rules.specs.Places.{barrier_place}
use Rattle.share_turns.specs.Holdings.{StaysBy, HasBarrier}
use Rattle.share_turns.specs.Loads.{HasLoaded, AreDoneMarked}
use Rattle.share_turns.proofs.Stays.{stays_lost, stays_out}
use Rattle.share_turns.proofs.Shares.{barrier_out}
use Rattle.share_turns.proofs.table.RunTable.bring_barrier.Goals as goal
use Rattle.share_rules.specs.Held.{IsTold}
use Rattle.share_turns.specs.Shares.{share_of}

pub returns-in_err-turn-clause-stays : goal.returns-in_err-turn-clause-stays
returns-in_err-turn-clause-stays g c =
    subst (λ (w : View). StaysBy g.B.Behaviour.valid g.B.Behaviour.carried g.B.Behaviour.reaction (key_of c.args.self.now.turns.now).value (view_of c.args.pass.now) w c.args.self.now.number) (sym c.in_err-turn.ensures.turn) (stays_lost g.B.Behaviour.valid g.B.Behaviour.carried g.B.Behaviour.reaction (key_of c.args.self.now.turns.now).value (view_of c.args.pass.now) c.barrier.result c.args.self.now.number)

pub returns-clause-barrier : goal.returns-clause-barrier
returns-clause-barrier g c =
    subst (λ (w : View). HasBarrier g.B.Behaviour.valid g.B.Behaviour.carried g.B.Behaviour.reaction (key_of c.args.self.now.turns.now).value (view_of c.args.pass.now) w c.args.self.now.number c.bring.result) (sym (c.bring.ensures.view ∙ ap (λ k. moving_out (view_of c.note_barrier.new.pass) k) (c.in_ok-turn.ensures.turn.0 ∙ (let lines = c.requires.table.timelines in let e : c.barrier.result ≡ barrier_place (key_of c.args.self.now.turns.now).value = omega (arith, lines, c.barrier.ensures) in e))))
    (barrier_out g.B.Behaviour.valid g.B.Behaviour.carried g.B.Behaviour.reaction (key_of c.args.self.now.turns.now).value (view_of c.args.pass.now) (view_of c.note_barrier.new.pass) c.args.self.now.number c.requires.pass.shaped c.requires.table.known c.requires.holds (subst (λ (w : View). HasLoaded w (view_of c.note_barrier.new.pass)) (c.in_ok-turn.ensures.turn.1 ∙ ap (λ k. taking (view_of c.args.pass.now) k) (let lines = c.requires.table.timelines in let e : c.barrier.result ≡ barrier_place (key_of c.args.self.now.turns.now).value = omega (arith, lines, c.barrier.ensures) in e)) c.note_barrier.ensures.loaded) (subst (λ (w : View). AreDoneMarked (key_of c.args.self.now.turns.now).value w (view_of c.note_barrier.new.pass)) (c.in_ok-turn.ensures.turn.1 ∙ ap (λ k. taking (view_of c.args.pass.now) k) (let lines = c.requires.table.timelines in let e : c.barrier.result ≡ barrier_place (key_of c.args.self.now.turns.now).value = omega (arith, lines, c.barrier.ensures) in e)) c.note_barrier.ensures.marked) c.bring.result (c.bring.ensures.place ∙ (c.in_ok-turn.ensures.turn.0 ∙ (let lines = c.requires.table.timelines in let e : c.barrier.result ≡ barrier_place (key_of c.args.self.now.turns.now).value = omega (arith, lines, c.barrier.ensures) in e))) (subst (λ k. IsTold (g.B.Behaviour.valid (key_of c.args.self.now.turns.now).value.behaviour) (g.B.Behaviour.carried (key_of c.args.self.now.turns.now).value.behaviour) (g.B.Behaviour.reaction (key_of c.args.self.now.turns.now).value.behaviour) (key_of c.args.self.now.turns.now).value (note (view_of c.note_barrier.new.pass)) (mark (view_of c.note_barrier.new.pass)) k (share_of c.bring.result.value)) (c.in_ok-turn.ensures.turn.0 ∙ (let lines = c.requires.table.timelines in let e : c.barrier.result ≡ barrier_place (key_of c.args.self.now.turns.now).value = omega (arith, lines, c.barrier.ensures) in e)) (let t = c.bring.ensures.value in record { sound = t.sound; marked = t.marked; counts = t.owing.counts; kept = t.owing.kept; meets = record { noted = t.owing.fits; above = t.owing.above }; owed = t.owing.owed })))

pub returns-clause-stays : goal.returns-clause-stays
returns-clause-stays g c =
    subst (λ (w : View). StaysBy g.B.Behaviour.valid g.B.Behaviour.carried g.B.Behaviour.reaction (key_of c.args.self.now.turns.now).value (view_of c.args.pass.now) w c.args.self.now.number) (sym (c.bring.ensures.view ∙ ap (λ k. moving_out (view_of c.note_barrier.new.pass) k) (c.in_ok-turn.ensures.turn.0 ∙ (let lines = c.requires.table.timelines in let e : c.barrier.result ≡ barrier_place (key_of c.args.self.now.turns.now).value = omega (arith, lines, c.barrier.ensures) in e))))
    (stays_out g.B.Behaviour.valid g.B.Behaviour.carried g.B.Behaviour.reaction (key_of c.args.self.now.turns.now).value (view_of c.args.pass.now) (view_of c.note_barrier.new.pass) (barrier_place (key_of c.args.self.now.turns.now).value) c.args.self.now.number c.requires.pass.shaped (omega arith) (subst (λ (w : View). HasLoaded w (view_of c.note_barrier.new.pass)) (c.in_ok-turn.ensures.turn.1 ∙ ap (λ k. taking (view_of c.args.pass.now) k) (let lines = c.requires.table.timelines in let e : c.barrier.result ≡ barrier_place (key_of c.args.self.now.turns.now).value = omega (arith, lines, c.barrier.ensures) in e)) c.note_barrier.ensures.loaded))
