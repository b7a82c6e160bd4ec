use Rattle.std.proofs.Common.{◌≡◌, rules, refl, ap, ◌∙◌, Ok}
use Rattle.sync_steps.specs.declared.steps.Step.TheVariants.{Take}
use Rattle.sync_steps.specs.declared.steps.Stepped.TheVariants.{Did, NotEnabled}
use Rattle.sync_steps.specs.Between.{can_take, IsTakenFrom}
use Rattle.worker_hands.specs.declared.hand.Answer.TheVariants.{Done, Memory as NoMemory}
use Rattle.worker_hands.specs.Hands.{after_made}
use Rattle.worker_hands.proofs.Asking.{told_one, told_two, IsIdle, once, twice, then_last}
use Rattle.worker_hands.proofs.Again.{not_enabled, not_did, taken_again}
use Rattle.worker_hands.proofs.Making.{if_taken, if_taken_kept, if_not_taken, pair_own, pair_new, pair_taken}
use Rattle.worker_hands.proofs.steps.take_all.Goals as goal

pub take-requires-clause-own : goal.take-requires-clause-own
take-requires-clause-own g c κs within = pair_own g.B.Behaviour.valid g.B.Behaviour.carried g.B.Behaviour.reaction g.met.B.Behaviour.sound g.met.B.Behaviour.modest c.args.number c.args.timeline.now c.args.mail.now c.requires.paired

pub take-requires-clause-new : goal.take-requires-clause-new
take-requires-clause-new g c κs within = pair_new g.B.Behaviour.valid g.B.Behaviour.carried g.B.Behaviour.reaction g.met.B.Behaviour.sound g.met.B.Behaviour.modest c.args.number c.args.timeline.now c.args.mail.now c.requires.paired

pub returns-in_err-take-clause-taken : goal.returns-in_err-take-clause-taken
returns-in_err-take-clause-taken g c =
    if_not_taken g.B.Behaviour.valid g.B.Behaviour.carried g.B.Behaviour.reaction g.met.B.Behaviour.sound g.met.B.Behaviour.modest c.args.number c.args.timeline.now c.take.new.timeline c.args.mail.now c.take.new.mail
    (c.in_err-take.ensures.kept_timeline (λ did. (cc))) (c.in_err-take.ensures.kept_mail (λ did. (cc)))

pub take-requires-then-eq-clause-own : goal.take-requires-then-eq-clause-own
take-requires-then-eq-clause-own g c κs within =
    let did : c.in_ok-take.field-0 ≡ Did = search rules in
    let t = c.take.new.timeline in
    let x = c.take.new.mail in
    pair_own g.B.Behaviour.valid g.B.Behaviour.carried g.B.Behaviour.reaction g.met.B.Behaviour.sound g.met.B.Behaviour.modest c.args.number t x
    (pair_taken g.B.Behaviour.valid g.B.Behaviour.carried g.B.Behaviour.reaction g.met.B.Behaviour.sound g.met.B.Behaviour.modest c.args.number c.args.timeline.now t c.args.mail.now x c.requires.paired
    (if_taken g.B.Behaviour.valid g.B.Behaviour.carried g.B.Behaviour.reaction g.met.B.Behaviour.sound g.met.B.Behaviour.modest c.args.number c.args.timeline.now t c.args.mail.now x (c.in_ok-take.ensures.did (ap Ok did))))

pub take-requires-then-eq-clause-new : goal.take-requires-then-eq-clause-new
take-requires-then-eq-clause-new g c κs within =
    let did : c.in_ok-take.field-0 ≡ Did = search rules in
    let t = c.take.new.timeline in
    let x = c.take.new.mail in
    pair_new g.B.Behaviour.valid g.B.Behaviour.carried g.B.Behaviour.reaction g.met.B.Behaviour.sound g.met.B.Behaviour.modest c.args.number t x
    (pair_taken g.B.Behaviour.valid g.B.Behaviour.carried g.B.Behaviour.reaction g.met.B.Behaviour.sound g.met.B.Behaviour.modest c.args.number c.args.timeline.now t c.args.mail.now x c.requires.paired
    (if_taken g.B.Behaviour.valid g.B.Behaviour.carried g.B.Behaviour.reaction g.met.B.Behaviour.sound g.met.B.Behaviour.modest c.args.number c.args.timeline.now t c.args.mail.now x (c.in_ok-take.ensures.did (ap Ok did))))

pub returns-in_err-take-2-clause-taken : goal.returns-in_err-take-2-clause-taken
returns-in_err-take-2-clause-taken g c =
    let did : c.in_ok-take.field-0 ≡ Did = search rules in
    if_taken_kept g.B.Behaviour.valid g.B.Behaviour.carried g.B.Behaviour.reaction g.met.B.Behaviour.sound g.met.B.Behaviour.modest c.args.number c.args.timeline.now c.take.new.timeline c.take-then-eq.new.timeline c.args.mail.now c.take.new.mail c.take-then-eq.new.mail
    (c.in_ok-take.ensures.did (ap Ok did)) (c.in_err-take-2.ensures.kept_timeline (λ did. (cc))) (c.in_err-take-2.ensures.kept_mail (λ did. (cc)))

pub returns-in_err-take-2-clause-asked : goal.returns-in_err-take-2-clause-asked
returns-in_err-take-2-clause-asked g c =
    twice (Take c.args.number) (Done c.in_ok-take.field-0) NoMemory c.args.hand.now c.take.new.self c.take-then-eq.new.self c.in_ok-take.ensures.list c.in_err-take-2.ensures.list refl refl

pub returns-in_ok-take-2-clause-taken : goal.returns-in_ok-take-2-clause-taken
returns-in_ok-take-2-clause-taken g c =
    let did : c.in_ok-take.field-0 ≡ Did = search rules in
    let first : IsTakenFrom c.args.mail.now c.take.new.mail c.args.timeline.now c.take.new.timeline = c.in_ok-take.ensures.did (ap Ok did) in
    let own = pair_own g.B.Behaviour.valid g.B.Behaviour.carried g.B.Behaviour.reaction g.met.B.Behaviour.sound g.met.B.Behaviour.modest c.args.number c.args.timeline.now c.args.mail.now c.requires.paired in
    let none : c.in_ok-take-2.field-0 ≡ NotEnabled = not_enabled (can_take c.take.new.timeline c.take.new.mail c.take.new.mail.channels) c.in_ok-take-2.field-0 c.in_ok-take-2.ensures.cause
    (taken_again c.args.timeline.now c.take.new.timeline c.args.mail.now c.take.new.mail own first) in
    if_taken_kept g.B.Behaviour.valid g.B.Behaviour.carried g.B.Behaviour.reaction g.met.B.Behaviour.sound g.met.B.Behaviour.modest c.args.number c.args.timeline.now c.take.new.timeline c.take-then-eq.new.timeline c.args.mail.now c.take.new.mail c.take-then-eq.new.mail
    first (c.in_ok-take-2.ensures.kept_timeline (λ did. not_did c.in_ok-take-2.field-0 none (cc))) (c.in_ok-take-2.ensures.kept_mail (λ did. not_did c.in_ok-take-2.field-0 none (cc)))

pub returns-in_ok-take-2-clause-asked : goal.returns-in_ok-take-2-clause-asked
returns-in_ok-take-2-clause-asked g c =
    twice (Take c.args.number) (Done c.in_ok-take.field-0) (Done c.in_ok-take-2.field-0) c.args.hand.now c.take.new.self c.take-then-eq.new.self c.in_ok-take.ensures.list c.in_ok-take-2.ensures.list refl refl

pub returns-in_ok-take-2-clause-done : goal.returns-in_ok-take-2-clause-done
returns-in_ok-take-2-clause-done g c =
    let did : c.in_ok-take.field-0 ≡ Did = search rules in
    let own = pair_own g.B.Behaviour.valid g.B.Behaviour.carried g.B.Behaviour.reaction g.met.B.Behaviour.sound g.met.B.Behaviour.modest c.args.number c.args.timeline.now c.args.mail.now c.requires.paired in
    let none : c.in_ok-take-2.field-0 ≡ NotEnabled = not_enabled (can_take c.take.new.timeline c.take.new.mail c.take.new.mail.channels) c.in_ok-take-2.field-0 c.in_ok-take-2.ensures.cause
    (taken_again c.args.timeline.now c.take.new.timeline c.args.mail.now c.take.new.mail own (c.in_ok-take.ensures.did (ap Ok did))) in
    then_last (Take c.args.number) (Done NotEnabled) (IsIdle (Take c.args.number)) c.args.hand.now c.take.new.self c.take-then-eq.new.self
    (once (Take c.args.number) (Done c.in_ok-take.field-0) c.args.hand.now c.take.new.self c.in_ok-take.ensures.list refl)
    (c.in_ok-take-2.ensures.list ∙ ap (λ a. after_made (record { step = Take c.args.number; answer = Done a }) c.take.new.self) none)

pub returns-else-eq-clause-taken : goal.returns-else-eq-clause-taken
returns-else-eq-clause-taken g c =
    let none : c.in_ok-take.field-0 ≡ NotEnabled = search rules in
    if_not_taken g.B.Behaviour.valid g.B.Behaviour.carried g.B.Behaviour.reaction g.met.B.Behaviour.sound g.met.B.Behaviour.modest c.args.number c.args.timeline.now c.take.new.timeline c.args.mail.now c.take.new.mail
    (c.in_ok-take.ensures.kept_timeline (λ did. not_did c.in_ok-take.field-0 none (cc))) (c.in_ok-take.ensures.kept_mail (λ did. not_did c.in_ok-take.field-0 none (cc)))

pub returns-in_err-take-clause-told : goal.returns-in_err-take-clause-told
returns-in_err-take-clause-told g c = told_one (record { step = Take c.args.number; answer = NoMemory }) c.args.hand.now c.take.new.self c.in_err-take.ensures.list

pub returns-in_err-take-2-clause-told : goal.returns-in_err-take-2-clause-told
returns-in_err-take-2-clause-told g c =
    told_two (record { step = Take c.args.number; answer = Done c.in_ok-take.field-0 }) (record { step = Take c.args.number; answer = NoMemory }) c.args.hand.now c.take.new.self c.take-then-eq.new.self c.in_ok-take.ensures.list c.in_err-take-2.ensures.list

pub returns-in_ok-take-2-clause-told : goal.returns-in_ok-take-2-clause-told
returns-in_ok-take-2-clause-told g c =
    told_two (record { step = Take c.args.number; answer = Done c.in_ok-take.field-0 }) (record { step = Take c.args.number; answer = Done c.in_ok-take-2.field-0 }) c.args.hand.now c.take.new.self c.take-then-eq.new.self c.in_ok-take.ensures.list c.in_ok-take-2.ensures.list

pub returns-else-eq-clause-told : goal.returns-else-eq-clause-told
returns-else-eq-clause-told g c = told_one (record { step = Take c.args.number; answer = Done c.in_ok-take.field-0 }) c.args.hand.now c.take.new.self c.in_ok-take.ensures.list
