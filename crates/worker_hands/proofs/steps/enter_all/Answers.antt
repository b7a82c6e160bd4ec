use Rattle.std.proofs.Common.{◌≡◌, rules, ◌∙◌}
use Rattle.sync_steps.specs.declared.steps.Stepped.TheVariants.{Did}
use Rattle.sync_steps.specs.declared.steps.Step.TheVariants.{Enter}
use Rattle.worker_hands.specs.declared.hand.Answer.TheVariants.{Done}
use Rattle.worker_hands.proofs.Asking.{told_one, told_two}
use Rattle.worker_hands.proofs.Again.{enabled, entered_twice}
use Rattle.worker_hands.proofs.Making.{if_entered}
use Rattle.worker_hands.proofs.steps.enter_all.Goals as goal

pub returns-then-eq-clause-entered : goal.returns-then-eq-clause-entered
returns-then-eq-clause-entered g c =
    let did : c.enter.result ≡ Did = search rules in
    if_entered g.B.Behaviour.valid g.B.Behaviour.carried g.B.Behaviour.reaction g.met.B.Behaviour.sound g.met.B.Behaviour.modest c.args.number c.args.timeline.now c.enter-then-eq.new.timeline c.args.barrier.now
    (enabled _ c.enter.result c.enter.ensures.cause did)
    (entered_twice c.args.barrier.now.window c.args.barrier.now.counts c.args.timeline.now c.enter.new.timeline c.enter-then-eq.new.timeline c.enter-then-eq.result (c.enter.ensures.did did) c.enter-then-eq.ensures.cause c.enter-then-eq.ensures.kept
    ∙ c.enter.ensures.did did)

pub returns-then-eq-clause-told : goal.returns-then-eq-clause-told
returns-then-eq-clause-told g c =
    told_two (record { step = Enter c.args.number; answer = Done c.enter.result }) (record { step = Enter c.args.number; answer = Done c.enter-then-eq.result }) c.args.hand.now c.enter.new.self c.enter-then-eq.new.self c.enter.ensures.list c.enter-then-eq.ensures.list

pub returns-else-eq-clause-told : goal.returns-else-eq-clause-told
returns-else-eq-clause-told g c = told_one (record { step = Enter c.args.number; answer = Done c.enter.result }) c.args.hand.now c.enter.new.self c.enter.ensures.list
