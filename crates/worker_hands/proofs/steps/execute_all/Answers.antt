use Rattle.std.proofs.Common.{◌≡◌, ◌+◌, ◌-◌, arith, refl, ap, ◌∙◌, subst, inr, false, Some, Ok, Err, Result}
use Rattle.timeline.specs.declared.answers.Ran.{Ran}
use Rattle.timeline.specs.declared.answers.Ran.TheVariants.{Over as WasOver}
use Rattle.sync_steps.specs.declared.steps.Step.TheVariants.{Execute}
use Rattle.std.specs.Result.{IsErrAnd}
use Rattle.worker_hands.specs.declared.steps.Halt.{Halt}
use Rattle.worker_hands.specs.declared.steps.Halt.TheVariants.{Over as WasOverHalt, Memory as NoMemoryHalt}
use Rattle.worker_hands.specs.declared.hand.Answer.TheVariants.{Executed, Memory as NoMemory}
use Rattle.worker_hands.specs.Hands.{after_made}
use Rattle.worker_hands.specs.Asked.{is_run, last_answer, IsExhausted}
use Rattle.worker_hands.proofs.Asking.{told_none, told_more, runs_begin, AreRuns, runs_more, runs_end, asked_as, then_last}
use Rattle.worker_hands.proofs.Making.{other_run, ran_executed, ran_nothing, ran_refusal, if_executed, if_spent, if_not_executed, if_executed_then, some_may_execute}
use Rattle.worker_hands.proofs.steps.execute_all.Goals as goal

ok_is_no_halt : (done : Result (Unit {0}) Halt) (e : Halt) → done ≡ Ok tt → done ≡ Err e → ⊥
ok_is_no_halt done e is wrong = (cc)

no_memory_is_not_over : (done : Result (Unit {0}) Halt) → IsErrAnd done (λ halt. halt ≡ NoMemoryHalt) → done ≡ Err WasOverHalt → ⊥
no_memory_is_not_over done is wrong = (let same : WasOverHalt ≡ NoMemoryHalt = subst (λ (z : Result (Unit {0}) Halt). IsErrAnd z (λ halt. halt ≡ NoMemoryHalt)) wrong is in cc)

pub execute-requires-after_bounds : goal.execute-requires-after_bounds
execute-requires-after_bounds g c κs within = some_may_execute g.B.Behaviour.valid g.B.Behaviour.carried g.B.Behaviour.reaction g.met.B.Behaviour.sound g.met.B.Behaviour.modest c.args.behaviour.now c.args.number c.args.timeline.now c.loop-left.timeline c.requires.held c.loop-left.invariant.have

pub loop-left-init : goal.loop-left-init
loop-left-init g c = record {
  have = if_not_executed g.B.Behaviour.valid g.B.Behaviour.carried g.B.Behaviour.reaction g.met.B.Behaviour.sound g.met.B.Behaviour.modest c.args.behaviour.now c.args.number c.args.timeline.now c.args.timeline.now refl;
  low = omega arith;
  told = told_none c.args.hand.now;
  asked = runs_begin c.args.number c.args.left.now c.args.hand.now;
}

pub loop-left-preserved : goal.loop-left-preserved
loop-left-preserved g c =
    let one_less : c.loop-left.left ≡ (c.loop-left.left - 1) + 1 = (let some = c.loop-left-test.true in omega (arith, some)) in
    record {
      have = if_executed_then g.B.Behaviour.valid g.B.Behaviour.carried g.B.Behaviour.reaction g.met.B.Behaviour.sound g.met.B.Behaviour.modest c.args.behaviour.now c.args.number c.args.timeline.now c.loop-left.timeline c.execute.new.timeline c.loop-left.invariant.have
          (if_executed g.B.Behaviour.valid g.B.Behaviour.carried g.B.Behaviour.reaction g.met.B.Behaviour.sound g.met.B.Behaviour.modest c.args.behaviour.now c.args.number c.loop-left.timeline c.execute.new.timeline
          (ran_executed (g.B.Behaviour.reaction c.args.behaviour.now) c.loop-left.timeline c.execute.new.timeline (Ok c.in_ok-_key.field-0) c.in_ok-_key.ensures.refused c.in_ok-_key.ensures.ran c.in-Ran._key (ap (λ (z : Ran). Ok z) c.in-Ran.is)));
      low = omega (arith, c.loop-left.invariant.low);
      told = told_more (record { step = Execute c.args.number; answer = Executed c.in_ok-_key.field-0 }) c.args.hand.now c.loop-left.hand c.execute.new.self c.loop-left.invariant.told c.in_ok-_key.ensures.list;
      asked = runs_more c.args.number c.args.left.now c.loop-left.left (c.loop-left.left - 1) (Executed c.in_ok-_key.field-0) c.args.hand.now c.loop-left.hand c.execute.new.self one_less c.loop-left.invariant.asked
          c.in_ok-_key.ensures.list (ap (λ (z : Ran). is_run (Executed z)) c.in-Ran.is);
    }

pub returns-in-Over-clause-executed : goal.returns-in-Over-clause-executed
returns-in-Over-clause-executed g c =
    if_executed_then g.B.Behaviour.valid g.B.Behaviour.carried g.B.Behaviour.reaction g.met.B.Behaviour.sound g.met.B.Behaviour.modest c.args.behaviour.now c.args.number c.args.timeline.now c.loop-left.timeline c.execute.new.timeline c.loop-left.invariant.have
    (if_not_executed g.B.Behaviour.valid g.B.Behaviour.carried g.B.Behaviour.reaction g.met.B.Behaviour.sound g.met.B.Behaviour.modest c.args.behaviour.now c.args.number c.loop-left.timeline c.execute.new.timeline
    (ran_nothing (g.B.Behaviour.reaction c.args.behaviour.now) c.loop-left.timeline c.execute.new.timeline (Ok c.in_ok-_key.field-0) c.in_ok-_key.ensures.refused c.in_ok-_key.ensures.ran c.in_ok-_key.field-0 refl (ap (λ (z : Ran). is_run (Executed z)) c.in-Over.is)))

pub returns-in-Over-clause-asked : goal.returns-in-Over-clause-asked
returns-in-Over-clause-asked g c =
    runs_end c.args.number c.args.left.now c.loop-left.left (Executed c.in_ok-_key.field-0) c.args.hand.now c.loop-left.hand c.execute.new.self c.loop-left.invariant.asked
    c.in_ok-_key.ensures.list (ap (λ (z : Ran). is_run (Executed z)) c.in-Over.is)

pub returns-in-Over-clause-over : goal.returns-in-Over-clause-over
returns-in-Over-clause-over g c = λ over.
    then_last (Execute c.args.number) (Executed WasOver) (AreRuns c.args.number c.args.left.now c.loop-left.left) c.args.hand.now c.loop-left.hand c.execute.new.self c.loop-left.invariant.asked
    (c.in_ok-_key.ensures.list ∙ ap (λ (z : Ran). after_made (record { step = Execute c.args.number; answer = Executed z }) c.loop-left.hand) c.in-Over.is)

pub returns-in_default : goal.returns-in_default
returns-in_default g c =
    let other : is_run (Executed c.in_ok-_key.field-0) ≡ false = other_run c.in_ok-_key.field-0 c.in_default.not-Ran in
    record {
      executed = if_executed_then g.B.Behaviour.valid g.B.Behaviour.carried g.B.Behaviour.reaction g.met.B.Behaviour.sound g.met.B.Behaviour.modest c.args.behaviour.now c.args.number c.args.timeline.now c.loop-left.timeline c.execute.new.timeline c.loop-left.invariant.have
          (if_not_executed g.B.Behaviour.valid g.B.Behaviour.carried g.B.Behaviour.reaction g.met.B.Behaviour.sound g.met.B.Behaviour.modest c.args.behaviour.now c.args.number c.loop-left.timeline c.execute.new.timeline
          (ran_nothing (g.B.Behaviour.reaction c.args.behaviour.now) c.loop-left.timeline c.execute.new.timeline (Ok c.in_ok-_key.field-0) c.in_ok-_key.ensures.refused c.in_ok-_key.ensures.ran c.in_ok-_key.field-0 refl other));
      left = c.loop-left.invariant.low;
      told = told_more (record { step = Execute c.args.number; answer = Executed c.in_ok-_key.field-0 }) c.args.hand.now c.loop-left.hand c.execute.new.self c.loop-left.invariant.told c.in_ok-_key.ensures.list;
      asked = runs_end c.args.number c.args.left.now c.loop-left.left (Executed c.in_ok-_key.field-0) c.args.hand.now c.loop-left.hand c.execute.new.self c.loop-left.invariant.asked
          c.in_ok-_key.ensures.list other;
      stopped = inr (c.in_ok-_key.field-0, ran_refusal (g.B.Behaviour.reaction c.args.behaviour.now) c.loop-left.timeline c.execute.new.timeline (Ok c.in_ok-_key.field-0) c.in_ok-_key.ensures.refused c.in_ok-_key.ensures.ran c.in_ok-_key.field-0 refl other, c.in_default.not-Over);
      done = asked_as c.args.hand.now c.execute.new.self (λ made. last_answer (Execute c.args.number) made ≡ Some (Executed c.in_ok-_key.field-0)) (IsExhausted c.loop-left.left c.args.number)
          (λ made last. inr (Executed c.in_ok-_key.field-0, last, other))
          (then_last (Execute c.args.number) (Executed c.in_ok-_key.field-0) (AreRuns c.args.number c.args.left.now c.loop-left.left) c.args.hand.now c.loop-left.hand c.execute.new.self c.loop-left.invariant.asked
          c.in_ok-_key.ensures.list);
      full = λ wrong. absurd (ok_is_no_halt _ _ refl wrong);
      over = λ wrong. absurd (ok_is_no_halt _ _ refl wrong);
    }

pub returns-in_err-_key-clause-executed : goal.returns-in_err-_key-clause-executed
returns-in_err-_key-clause-executed g c =
    if_executed_then g.B.Behaviour.valid g.B.Behaviour.carried g.B.Behaviour.reaction g.met.B.Behaviour.sound g.met.B.Behaviour.modest c.args.behaviour.now c.args.number c.args.timeline.now c.loop-left.timeline c.execute.new.timeline c.loop-left.invariant.have
    (if_spent g.B.Behaviour.valid g.B.Behaviour.carried g.B.Behaviour.reaction g.met.B.Behaviour.sound g.met.B.Behaviour.modest c.args.behaviour.now c.args.number c.loop-left.timeline c.execute.new.timeline c.in_err-_key.ensures.spent.0 c.in_err-_key.ensures.spent.1 c.in_err-_key.ensures.order)

pub returns-in_err-_key-clause-asked : goal.returns-in_err-_key-clause-asked
returns-in_err-_key-clause-asked g c =
    runs_end c.args.number c.args.left.now c.loop-left.left NoMemory c.args.hand.now c.loop-left.hand c.execute.new.self c.loop-left.invariant.asked c.in_err-_key.ensures.list refl

pub returns-in_err-_key-clause-over : goal.returns-in_err-_key-clause-over
returns-in_err-_key-clause-over g c = λ over. absurd (no_memory_is_not_over c.from_residual.result c.from_residual.ensures.1 over)

pub returns-in-Over-clause-told : goal.returns-in-Over-clause-told
returns-in-Over-clause-told g c = told_more (record { step = Execute c.args.number; answer = Executed c.in_ok-_key.field-0 }) c.args.hand.now c.loop-left.hand c.execute.new.self c.loop-left.invariant.told c.in_ok-_key.ensures.list

pub returns-in_err-_key-clause-told : goal.returns-in_err-_key-clause-told
returns-in_err-_key-clause-told g c = told_more (record { step = Execute c.args.number; answer = NoMemory }) c.args.hand.now c.loop-left.hand c.execute.new.self c.loop-left.invariant.told c.in_err-_key.ensures.list

pub returns-in-Over-clause-full : goal.returns-in-Over-clause-full
returns-in-Over-clause-full g c = λ over.
    ran_refusal (g.B.Behaviour.reaction c.args.behaviour.now) c.loop-left.timeline c.execute.new.timeline (Ok c.in_ok-_key.field-0) c.in_ok-_key.ensures.refused c.in_ok-_key.ensures.ran c.in_ok-_key.field-0 refl (ap (λ (z : Ran). is_run (Executed z)) c.in-Over.is) ∙ ap (λ (z : Ran). Some z) c.in-Over.is

pub returns-in_err-_key-clause-full : goal.returns-in_err-_key-clause-full
returns-in_err-_key-clause-full g c = λ over. absurd (no_memory_is_not_over c.from_residual.result c.from_residual.ensures.1 over)
