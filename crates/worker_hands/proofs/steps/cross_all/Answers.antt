use Rattle.std.proofs.Common.{◌≡◌, refl, sym, ap, ◌∙◌, subst, Some}
use Rattle.barrier_window.specs.declared.barrier.Crossing.{Crossing as CrossingValue}
use Rattle.barrier_window.specs.declared.barrier.Crossing.TheVariants.{Crossed as WasCrossed, Waiting}
use Rattle.barrier_window.specs.Crossings.{after_crossing}
use Rattle.sync_steps.specs.declared.steps.Step.TheVariants.{Cross}
use Rattle.worker_hands.specs.declared.hand.Answer.TheVariants.{Crossed}
use Rattle.worker_hands.specs.Hands.{after_made}
use Rattle.worker_hands.specs.Asked.{is_crossed, last_answer, IsUncrossed}
use Rattle.worker_hands.proofs.Asking.{told_one, told_two, IsIdle, once, once_last, then_last, asked_as}
use Rattle.worker_hands.proofs.Again.{crossed_waits}
use Rattle.worker_hands.proofs.Making.{uncrossed, not_crossed, if_crossed, if_not_crossed}
use Rattle.worker_hands.proofs.steps.cross_all.Goals as goal

pub returns-in-Crossed-clause-crossed : goal.returns-in-Crossed-clause-crossed
returns-in-Crossed-clause-crossed g c =
    let waits : c.cross-in-Crossed.result ≡ Waiting 0 = crossed_waits c.args.barrier.now c.cross.new.barrier c.in-Crossed._window c.cross-in-Crossed.result c.requires.some c.in-Crossed.ensures.answer c.in-Crossed.ensures.after c.cross-in-Crossed.ensures.answer in
    if_crossed g.B.Behaviour.valid g.B.Behaviour.carried g.B.Behaviour.reaction g.met.B.Behaviour.sound g.met.B.Behaviour.modest c.args.barrier.now c.cross-in-Crossed.new.barrier
    (c.cross-in-Crossed.ensures.after ∙ (ap (λ (x : CrossingValue). after_crossing x c.cross.new.barrier) waits
    ∙ (c.in-Crossed.ensures.after ∙ ap (λ (x : CrossingValue). after_crossing x c.args.barrier.now) c.in-Crossed.ensures.answer)))

pub returns-in-Crossed-clause-done : goal.returns-in-Crossed-clause-done
returns-in-Crossed-clause-done g c =
    let waits : c.cross-in-Crossed.result ≡ Waiting 0 = crossed_waits c.args.barrier.now c.cross.new.barrier c.in-Crossed._window c.cross-in-Crossed.result c.requires.some c.in-Crossed.ensures.answer c.in-Crossed.ensures.after c.cross-in-Crossed.ensures.answer in
    asked_as c.args.hand.now c.cross-in-Crossed.new.self _ (λ made. IsUncrossed (last_answer Cross made)) (λ made last. subst IsUncrossed (sym last) tt)
    (then_last Cross (Crossed (Waiting 0)) (IsIdle Cross) c.args.hand.now c.cross.new.self c.cross-in-Crossed.new.self
    (once Cross (Crossed (WasCrossed c.in-Crossed._window)) c.args.hand.now c.cross.new.self c.in-Crossed.ensures.list refl)
    (c.cross-in-Crossed.ensures.list ∙ ap (λ (x : CrossingValue). after_made (record { step = Cross; answer = Crossed x }) c.cross.new.self) waits))

pub returns-in_default : goal.returns-in_default
returns-in_default g c = record {
  answer = sym (ap is_crossed (sym c.cross.ensures.answer) ∙ not_crossed c.cross.result c.in_default.not-Crossed);
  crossed = if_not_crossed g.B.Behaviour.valid g.B.Behaviour.carried g.B.Behaviour.reaction g.met.B.Behaviour.sound g.met.B.Behaviour.modest c.args.barrier.now c.cross.new.barrier
      (c.cross.ensures.after ∙ ap (λ (x : CrossingValue). after_crossing x c.args.barrier.now) c.cross.ensures.answer)
      (λ window is. c.in_default.not-Crossed window (c.cross.ensures.answer ∙ is));
  told = told_one (record { step = Cross; answer = Crossed c.cross.result }) c.args.hand.now c.cross.new.self c.cross.ensures.list;
  asked = once Cross (Crossed c.cross.result) c.args.hand.now c.cross.new.self c.cross.ensures.list refl;
  done = asked_as c.args.hand.now c.cross.new.self (λ made. last_answer Cross made ≡ Some (Crossed c.cross.result)) (λ made. IsUncrossed (last_answer Cross made))
      (λ made last. subst IsUncrossed (sym last) (uncrossed c.cross.result c.in_default.not-Crossed))
      (once_last Cross (Crossed c.cross.result) c.args.hand.now c.cross.new.self c.cross.ensures.list);
}

pub returns-in-Crossed-clause-told : goal.returns-in-Crossed-clause-told
returns-in-Crossed-clause-told g c =
    told_two (record { step = Cross; answer = Crossed c.cross.result }) (record { step = Cross; answer = Crossed c.cross-in-Crossed.result }) c.args.hand.now c.cross.new.self c.cross-in-Crossed.new.self c.cross.ensures.list c.cross-in-Crossed.ensures.list

pub returns-in-Crossed-clause-answer : goal.returns-in-Crossed-clause-answer
returns-in-Crossed-clause-answer g c = ap is_crossed c.in-Crossed.ensures.answer
