use Rattle.std.proofs.Common.{◌≡◌, rules, refl, ap, ◌∙◌, Ok}
use Rattle.sync_steps.specs.declared.steps.Step.TheVariants.{Report}
use Rattle.sync_steps.specs.declared.steps.Stepped.TheVariants.{Did, NotEnabled}
use Rattle.sync_steps.specs.Between.{can_report}
use Rattle.worker_hands.specs.declared.hand.Answer.TheVariants.{Done, Memory as NoMemory}
use Rattle.worker_hands.specs.Hands.{after_made}
use Rattle.worker_hands.proofs.Asking.{told_one, told_two, IsIdle, once, twice, then_last}
use Rattle.worker_hands.proofs.Again.{enabled, not_enabled, not_did, reported_after}
use Rattle.worker_hands.proofs.Making.{if_reported, if_not_reported, meeting_number, meeting_ends, meeting_cross, meeting_reported}
use Rattle.worker_hands.proofs.steps.report_all.Goals as goal

pub report-requires-clause-number : goal.report-requires-clause-number
report-requires-clause-number g c κs within = meeting_number g.B.Behaviour.valid g.B.Behaviour.carried g.B.Behaviour.reaction g.met.B.Behaviour.sound g.met.B.Behaviour.modest c.args.number c.args.timeline.now c.args.barrier.now c.requires.met

pub report-requires-clause-ends : goal.report-requires-clause-ends
report-requires-clause-ends g c κs within = meeting_ends g.B.Behaviour.valid g.B.Behaviour.carried g.B.Behaviour.reaction g.met.B.Behaviour.sound g.met.B.Behaviour.modest c.args.number c.args.timeline.now c.args.barrier.now c.requires.met

pub report-requires-clause-cross : goal.report-requires-clause-cross
report-requires-clause-cross g c κs within = meeting_cross g.B.Behaviour.valid g.B.Behaviour.carried g.B.Behaviour.reaction g.met.B.Behaviour.sound g.met.B.Behaviour.modest c.args.number c.args.timeline.now c.args.barrier.now c.requires.met

pub returns-in_err-report-clause-reported : goal.returns-in_err-report-clause-reported
returns-in_err-report-clause-reported g c =
    if_not_reported g.B.Behaviour.valid g.B.Behaviour.carried g.B.Behaviour.reaction g.met.B.Behaviour.sound g.met.B.Behaviour.modest c.args.number c.args.timeline.now c.args.barrier.now c.report.new.barrier (c.in_err-report.ensures.kept (λ did. (cc)))

pub report-requires-then-eq-clause-number : goal.report-requires-then-eq-clause-number
report-requires-then-eq-clause-number g c κs within =
    let did : c.in_ok-report.field-0 ≡ Did = search rules in
    meeting_number g.B.Behaviour.valid g.B.Behaviour.carried g.B.Behaviour.reaction g.met.B.Behaviour.sound g.met.B.Behaviour.modest c.args.number c.args.timeline.now c.report.new.barrier
    (meeting_reported g.B.Behaviour.valid g.B.Behaviour.carried g.B.Behaviour.reaction g.met.B.Behaviour.sound g.met.B.Behaviour.modest c.args.number c.args.timeline.now c.args.barrier.now c.report.new.barrier c.requires.met
    (if_reported g.B.Behaviour.valid g.B.Behaviour.carried g.B.Behaviour.reaction g.met.B.Behaviour.sound g.met.B.Behaviour.modest c.args.number c.args.timeline.now c.args.barrier.now c.report.new.barrier (enabled _ c.in_ok-report.field-0 c.in_ok-report.ensures.cause did) (c.in_ok-report.ensures.did (ap Ok did))))

pub report-requires-then-eq-clause-ends : goal.report-requires-then-eq-clause-ends
report-requires-then-eq-clause-ends g c κs within = meeting_ends g.B.Behaviour.valid g.B.Behaviour.carried g.B.Behaviour.reaction g.met.B.Behaviour.sound g.met.B.Behaviour.modest c.args.number c.args.timeline.now c.args.barrier.now c.requires.met

pub report-requires-then-eq-clause-cross : goal.report-requires-then-eq-clause-cross
report-requires-then-eq-clause-cross g c κs within =
    let did : c.in_ok-report.field-0 ≡ Did = search rules in
    meeting_cross g.B.Behaviour.valid g.B.Behaviour.carried g.B.Behaviour.reaction g.met.B.Behaviour.sound g.met.B.Behaviour.modest c.args.number c.args.timeline.now c.report.new.barrier
    (meeting_reported g.B.Behaviour.valid g.B.Behaviour.carried g.B.Behaviour.reaction g.met.B.Behaviour.sound g.met.B.Behaviour.modest c.args.number c.args.timeline.now c.args.barrier.now c.report.new.barrier c.requires.met
    (if_reported g.B.Behaviour.valid g.B.Behaviour.carried g.B.Behaviour.reaction g.met.B.Behaviour.sound g.met.B.Behaviour.modest c.args.number c.args.timeline.now c.args.barrier.now c.report.new.barrier (enabled _ c.in_ok-report.field-0 c.in_ok-report.ensures.cause did) (c.in_ok-report.ensures.did (ap Ok did))))

pub returns-in_err-report-2-clause-reported : goal.returns-in_err-report-2-clause-reported
returns-in_err-report-2-clause-reported g c =
    let did : c.in_ok-report.field-0 ≡ Did = search rules in
    if_reported g.B.Behaviour.valid g.B.Behaviour.carried g.B.Behaviour.reaction g.met.B.Behaviour.sound g.met.B.Behaviour.modest c.args.number c.args.timeline.now c.args.barrier.now c.report-then-eq.new.barrier (enabled _ c.in_ok-report.field-0 c.in_ok-report.ensures.cause did)
    (c.in_err-report-2.ensures.kept (λ did. (cc)) ∙ c.in_ok-report.ensures.did (ap Ok did))

pub returns-in_err-report-2-clause-asked : goal.returns-in_err-report-2-clause-asked
returns-in_err-report-2-clause-asked g c =
    twice (Report c.args.number) (Done c.in_ok-report.field-0) NoMemory c.args.hand.now c.report.new.self c.report-then-eq.new.self c.in_ok-report.ensures.list c.in_err-report-2.ensures.list refl refl

pub returns-in_ok-report-2-clause-reported : goal.returns-in_ok-report-2-clause-reported
returns-in_ok-report-2-clause-reported g c =
    let did : c.in_ok-report.field-0 ≡ Did = search rules in
    let number = meeting_number g.B.Behaviour.valid g.B.Behaviour.carried g.B.Behaviour.reaction g.met.B.Behaviour.sound g.met.B.Behaviour.modest c.args.number c.args.timeline.now c.args.barrier.now c.requires.met in
    let none : c.in_ok-report-2.field-0 ≡ NotEnabled = not_enabled (can_report c.args.timeline.now c.args.number c.report.new.barrier) c.in_ok-report-2.field-0 c.in_ok-report-2.ensures.cause
    (reported_after c.args.timeline.now c.args.number c.args.barrier.now c.report.new.barrier number (c.in_ok-report.ensures.did (ap Ok did))) in
    if_reported g.B.Behaviour.valid g.B.Behaviour.carried g.B.Behaviour.reaction g.met.B.Behaviour.sound g.met.B.Behaviour.modest c.args.number c.args.timeline.now c.args.barrier.now c.report-then-eq.new.barrier (enabled _ c.in_ok-report.field-0 c.in_ok-report.ensures.cause did)
    (c.in_ok-report-2.ensures.kept (λ did. not_did c.in_ok-report-2.field-0 none (cc)) ∙ c.in_ok-report.ensures.did (ap Ok did))

pub returns-in_ok-report-2-clause-asked : goal.returns-in_ok-report-2-clause-asked
returns-in_ok-report-2-clause-asked g c =
    twice (Report c.args.number) (Done c.in_ok-report.field-0) (Done c.in_ok-report-2.field-0) c.args.hand.now c.report.new.self c.report-then-eq.new.self c.in_ok-report.ensures.list c.in_ok-report-2.ensures.list refl refl

pub returns-in_ok-report-2-clause-done : goal.returns-in_ok-report-2-clause-done
returns-in_ok-report-2-clause-done g c =
    let did : c.in_ok-report.field-0 ≡ Did = search rules in
    let number = meeting_number g.B.Behaviour.valid g.B.Behaviour.carried g.B.Behaviour.reaction g.met.B.Behaviour.sound g.met.B.Behaviour.modest c.args.number c.args.timeline.now c.args.barrier.now c.requires.met in
    let none : c.in_ok-report-2.field-0 ≡ NotEnabled = not_enabled (can_report c.args.timeline.now c.args.number c.report.new.barrier) c.in_ok-report-2.field-0 c.in_ok-report-2.ensures.cause
    (reported_after c.args.timeline.now c.args.number c.args.barrier.now c.report.new.barrier number (c.in_ok-report.ensures.did (ap Ok did))) in
    then_last (Report c.args.number) (Done NotEnabled) (IsIdle (Report c.args.number)) c.args.hand.now c.report.new.self c.report-then-eq.new.self
    (once (Report c.args.number) (Done c.in_ok-report.field-0) c.args.hand.now c.report.new.self c.in_ok-report.ensures.list refl)
    (c.in_ok-report-2.ensures.list ∙ ap (λ a. after_made (record { step = Report c.args.number; answer = Done a }) c.report.new.self) none)

pub returns-else-eq-clause-reported : goal.returns-else-eq-clause-reported
returns-else-eq-clause-reported g c =
    let none : c.in_ok-report.field-0 ≡ NotEnabled = search rules in
    if_not_reported g.B.Behaviour.valid g.B.Behaviour.carried g.B.Behaviour.reaction g.met.B.Behaviour.sound g.met.B.Behaviour.modest c.args.number c.args.timeline.now c.args.barrier.now c.report.new.barrier (c.in_ok-report.ensures.kept (λ did. not_did c.in_ok-report.field-0 none (cc)))

pub returns-in_err-report-clause-told : goal.returns-in_err-report-clause-told
returns-in_err-report-clause-told g c = told_one (record { step = Report c.args.number; answer = NoMemory }) c.args.hand.now c.report.new.self c.in_err-report.ensures.list

pub returns-in_err-report-2-clause-told : goal.returns-in_err-report-2-clause-told
returns-in_err-report-2-clause-told g c =
    told_two (record { step = Report c.args.number; answer = Done c.in_ok-report.field-0 }) (record { step = Report c.args.number; answer = NoMemory }) c.args.hand.now c.report.new.self c.report-then-eq.new.self c.in_ok-report.ensures.list c.in_err-report-2.ensures.list

pub returns-in_ok-report-2-clause-told : goal.returns-in_ok-report-2-clause-told
returns-in_ok-report-2-clause-told g c =
    told_two (record { step = Report c.args.number; answer = Done c.in_ok-report.field-0 }) (record { step = Report c.args.number; answer = Done c.in_ok-report-2.field-0 }) c.args.hand.now c.report.new.self c.report-then-eq.new.self c.in_ok-report.ensures.list c.in_ok-report-2.ensures.list

pub returns-else-eq-clause-told : goal.returns-else-eq-clause-told
returns-else-eq-clause-told g c = told_one (record { step = Report c.args.number; answer = Done c.in_ok-report.field-0 }) c.args.hand.now c.report.new.self c.in_ok-report.ensures.list
