use Rattle.std.proofs.Common.{ℕ, ◌≡◌, ◌≤◌, ◌+◌, length, sym, ap, ◌∙◌, subst, lit≤, Err}
use Rattle.trace_writer.specs.Merging.{HasRoom}
use Rattle.trace_writer.specs.declared.merging.MergeFault.TheVariants.{WriteFault, Memory as NoRoom}
use Rattle.core_rules.specs.Cores.{CoreView}
use Rattle.core_rules.specs.Reading.{safe_bound_in}
use Rattle.core_rules.specs.Stepping.{without_below}
use Rattle.sync_core.specs.declared.driving.DriveEnd.TheVariants as drive
use Rattle.sync_core.specs.declared.driving.Driven.{Driven}
use Rattle.step_run.specs.Telling.{Told}
use Rattle.step_run.specs.Going.{Output, KeepsFrom, GoesOn, IsHalted, HasAdvanced, HasCause, IfFurther, IsDrivenOn, outcome}
use Rattle.step_run.proofs.Going.{AreDriven, of_run, can_merge, keeps_less, has_advanced, is_cut, is_as_before, bound_stays, driven_on, if_further, if_always, if_ok_each, has_no_fault, room_on}
use Rattle.step_run.proofs.Laws.{laws}
use Rattle.step_run.proofs.running.advance.Goals as goal

pub drive_some-driven-requires-clause-run : goal.drive_some-driven-requires-clause-run
drive_some-driven-requires-clause-run g c κs within =
    let v = g.B.Behaviour.valid in
    let ca = g.B.Behaviour.carried in
    let r = g.B.Behaviour.reaction in
    let go = c.requires.goes_on in
    of_run v ca r (laws v ca r g.met.B.Behaviour.sound g.met.B.Behaviour.modest) c.args.names.now c.args.until go.task go.given c.args.core.now go.from go.keeps

pub drive_some-driven-requires-clause-crossings : goal.drive_some-driven-requires-clause-crossings
drive_some-driven-requires-clause-crossings g c κs within = lit≤ tt

pub write_piece-requires-clause-room : goal.write_piece-requires-clause-room
write_piece-requires-clause-room g c κs within =
    subst (λ n. HasRoom c.args.names.now n c.args.records.now.room) (sym c.drive_some-driven.ensures.onward.grown.many) c.requires.room

pub write_piece-requires-clause-histories : goal.write_piece-requires-clause-histories
write_piece-requires-clause-histories g c κs within =
    let v = g.B.Behaviour.valid in
    let ca = g.B.Behaviour.carried in
    let r = g.B.Behaviour.reaction in
    let law = laws v ca r g.met.B.Behaviour.sound g.met.B.Behaviour.modest in
    let core = c.args.core.now in
    let mid = c.drive_some-driven.new.self in
    let driven : AreDriven v ca r core mid = record { steps = c.drive_some-driven.ensures.steps; onward = c.drive_some-driven.ensures.onward } in
    let go = c.requires.goes_on in
    can_merge v ca r law c.args.names.now c.args.until go.task go.given core mid go.from go.keeps driven

pub returns-in-Ok-clause-advanced : goal.returns-in-Ok-clause-advanced
returns-in-Ok-clause-advanced g c = λ task first given under.
    let v = g.B.Behaviour.valid in
    let ca = g.B.Behaviour.carried in
    let r = g.B.Behaviour.reaction in
    let law = laws v ca r g.met.B.Behaviour.sound g.met.B.Behaviour.modest in
    let core = c.args.core.now in
    let mid = c.drive_some-driven.new.self in
    let driven : AreDriven v ca r core mid = record { steps = c.drive_some-driven.ensures.steps; onward = c.drive_some-driven.ensures.onward } in
    let outcome_is : c.outcome_of.result ≡ outcome c.drive_some-driven.result c.write_piece.new.self.below =
    c.outcome_of.ensures ∙ ap (λ f. outcome c.drive_some-driven.result f) c.below.ensures in
    let now : Output = record { held = g.K.Sink.held c.args.out.now; tally = c.args.tally.now } in
    let then : Output = record { held = g.K.Sink.held c.write_piece.new.sink; tally = c.write_piece.new.tally } in
    subst (λ a. HasAdvanced (r task.plan.behaviour) c.args.names.now c.args.until task c.write_piece.new.core c.write_piece.new.self first then a) (sym outcome_is)
    (has_advanced v ca r law c.args.names.now c.args.until task given core mid c.args.records.now first now under driven
    c.write_piece.new.core c.write_piece.new.self then
    (record { given_up = c.in-Ok.ensures.given_up; at = c.in-Ok.ensures.bound; counted = c.in-Ok.ensures.count; text = c.in-Ok.ensures.text; tallied = c.in-Ok.ensures.tally })
    c.drive_some-driven.result c.drive_some-driven.ensures.finished c.drive_some-driven.ensures.over)

pub returns-in-Ok-clause-goes_on : goal.returns-in-Ok-clause-goes_on
returns-in-Ok-clause-goes_on g c =
    let v = g.B.Behaviour.valid in
    let ca = g.B.Behaviour.carried in
    let r = g.B.Behaviour.reaction in
    let law = laws v ca r g.met.B.Behaviour.sound g.met.B.Behaviour.modest in
    let core = c.args.core.now in
    let mid = c.drive_some-driven.new.self in
    let driven : AreDriven v ca r core mid = record { steps = c.drive_some-driven.ensures.steps; onward = c.drive_some-driven.ensures.onward } in
    let go = c.requires.goes_on in
    let less = keeps_less v ca r law c.args.names.now c.args.until go.task go.given core mid go.from go.keeps driven in
    let next : GoesOn v ca r c.args.names.now c.args.until c.write_piece.new.core = record {
      task = go.task;
      given = go.given;
      from = safe_bound_in mid;
      keeps = subst (λ k. KeepsFrom (r go.task.plan.behaviour) c.args.until go.task k (safe_bound_in mid)) (sym c.in-Ok.ensures.given_up) less;
    } in
    if_always c.outcome_of.result (λ used. GoesOn v ca r c.args.names.now c.args.until c.write_piece.new.core) (λ used. next)

pub returns-in-Ok-clause-room : goal.returns-in-Ok-clause-room
returns-in-Ok-clause-room g c =
    let room = room_on c.args.names.now c.args.core.now c.drive_some-driven.new.self c.write_piece.new.core c.args.records.now.room c.write_piece.new.self.room
    (safe_bound_in c.drive_some-driven.new.self) c.requires.room c.drive_some-driven.ensures.onward.grown.many c.in-Ok.ensures.given_up c.write_piece.ensures.room.0 c.write_piece.ensures.room.1 in
    if_always c.outcome_of.result (λ used. HasRoom c.args.names.now (length c.write_piece.new.core.timelines) c.write_piece.new.self.room) (λ used. room)

pub returns-in-Ok-clause-risen : goal.returns-in-Ok-clause-risen
returns-in-Ok-clause-risen g c =
    let outcome_is : c.outcome_of.result ≡ outcome c.drive_some-driven.result c.write_piece.new.self.below =
    c.outcome_of.ensures ∙ ap (λ f. outcome c.drive_some-driven.result f) c.below.ensures in
    let mid = c.drive_some-driven.new.self in
    let old = c.args.core.now.barrier.round in
    subst (λ a. IfFurther a (λ used. c.write_piece.new.core.barrier.round ≡ old + 1024)) (sym outcome_is)
    (if_further c.drive_some-driven.result c.write_piece.new.self.below (λ used. c.write_piece.new.core.barrier.round ≡ old + 1024)
    (if_ok_each c.drive_some-driven.result _ (λ (d : Driven). d.end ≡ drive.Crossed → c.write_piece.new.core.barrier.round ≡ old + 1024)
    (λ d crossed is. ap (λ (k : CoreView _ _ _). k.barrier.round) c.in-Ok.ensures.given_up ∙ (crossed.0 is).1) c.drive_some-driven.ensures.crossed))

pub returns-in-Ok-clause-streamed : goal.returns-in-Ok-clause-streamed
returns-in-Ok-clause-streamed g c =
    let mid = c.drive_some-driven.new.self in
    if_always c.outcome_of.result (λ used. c.write_piece.new.self.below ≡ safe_bound_in c.write_piece.new.core)
    (λ used. c.in-Ok.ensures.bound ∙ bound_stays mid c.write_piece.new.core (safe_bound_in mid) c.in-Ok.ensures.given_up)

pub returns-in-Ok-clause-driven : goal.returns-in-Ok-clause-driven
returns-in-Ok-clause-driven g c =
    let outcome_is : c.outcome_of.result ≡ outcome c.drive_some-driven.result c.write_piece.new.self.below =
    c.outcome_of.ensures ∙ ap (λ f. outcome c.drive_some-driven.result f) c.below.ensures in
    let core = c.args.core.now in
    let mid = c.drive_some-driven.new.self in
    let after = c.write_piece.new.core in
    let below = c.write_piece.new.self.below in
    let r = g.B.Behaviour.reaction core.behaviour in
    let last = core.barrier.round + 1024 in
    let schedule = c.args.schedule.now in
    let given_up = c.in-Ok.ensures.given_up ∙ ap (λ f. without_below f mid) (sym c.in-Ok.ensures.bound) in
    let Has : ℕ → Type 0 = λ used. IsDrivenOn r last schedule used core after below in
    subst (λ a. IfFurther a Has) (sym outcome_is)
    (if_further c.drive_some-driven.result below Has
    (if_ok_each c.drive_some-driven.result _ (λ (d : Driven). d.end ≡ drive.Crossed → Has d.used)
    (λ d tries is. driven_on r last schedule d.used core mid after below tries given_up) c.drive_some-driven.ensures.driven))

pub returns-in-Ok-clause-used : goal.returns-in-Ok-clause-used
returns-in-Ok-clause-used g c =
    let outcome_is : c.outcome_of.result ≡ outcome c.drive_some-driven.result c.write_piece.new.self.below =
    c.outcome_of.ensures ∙ ap (λ f. outcome c.drive_some-driven.result f) c.below.ensures in
    subst (λ a. IfFurther a (λ used. used ≤ length c.args.schedule.now)) (sym outcome_is)
    (if_further c.drive_some-driven.result c.write_piece.new.self.below (λ used. used ≤ length c.args.schedule.now)
    (if_ok_each c.drive_some-driven.result _ (λ (d : Driven). d.end ≡ drive.Crossed → d.used ≤ length c.args.schedule.now) (λ d few is. few) c.drive_some-driven.ensures.used))

pub returns-in-Ok-clause-cause : goal.returns-in-Ok-clause-cause
returns-in-Ok-clause-cause g c =
    let outcome_is : c.outcome_of.result ≡ outcome c.drive_some-driven.result c.write_piece.new.self.below =
    c.outcome_of.ensures ∙ ap (λ f. outcome c.drive_some-driven.result f) c.below.ensures in
    subst (λ a. HasCause (g.K.Sink.faults c.args.out.now) (g.K.Sink.faults c.write_piece.new.sink) a) (sym outcome_is)
    (has_no_fault (g.K.Sink.faults c.args.out.now) (g.K.Sink.faults c.write_piece.new.sink) c.drive_some-driven.result c.write_piece.new.self.below)

pub returns-in-Ok-clause-never_falls : goal.returns-in-Ok-clause-never_falls
returns-in-Ok-clause-never_falls g c = c.write_piece.ensures.never_falls

pub returns-in-Err-WriteFault-clause-advanced : goal.returns-in-Err-WriteFault-clause-advanced
returns-in-Err-WriteFault-clause-advanced g c = λ task first given under.
    let v = g.B.Behaviour.valid in
    let ca = g.B.Behaviour.carried in
    let r = g.B.Behaviour.reaction in
    let law = laws v ca r g.met.B.Behaviour.sound g.met.B.Behaviour.modest in
    let core = c.args.core.now in
    let mid = c.drive_some-driven.new.self in
    let driven : AreDriven v ca r core mid = record { steps = c.drive_some-driven.ensures.steps; onward = c.drive_some-driven.ensures.onward } in
    let now : Output = record { held = g.K.Sink.held c.args.out.now; tally = c.args.tally.now } in
    let then : Output = record { held = g.K.Sink.held c.write_piece.new.sink; tally = c.write_piece.new.tally } in
    let failed : c.write_piece.result ≡ Err WriteFault = cc in
    is_cut v ca r law c.args.names.now c.args.until task given core mid c.args.records.now first now under driven
    then (c.write_piece.ensures.part failed)

pub returns-in-Err-WriteFault-clause-cause : goal.returns-in-Err-WriteFault-clause-cause
returns-in-Err-WriteFault-clause-cause g c =
    let failed : c.write_piece.result ≡ Err WriteFault = cc in
    c.write_piece.ensures.cause failed

pub returns-in-Err-WriteFault-clause-never_falls : goal.returns-in-Err-WriteFault-clause-never_falls
returns-in-Err-WriteFault-clause-never_falls g c = c.write_piece.ensures.never_falls

pub returns-in-Err-Memory-clause-advanced : goal.returns-in-Err-Memory-clause-advanced
returns-in-Err-Memory-clause-advanced g c = λ task first given under.
    let v = g.B.Behaviour.valid in
    let ca = g.B.Behaviour.carried in
    let r = g.B.Behaviour.reaction in
    let law = laws v ca r g.met.B.Behaviour.sound g.met.B.Behaviour.modest in
    let core = c.args.core.now in
    let mid = c.drive_some-driven.new.self in
    let driven : AreDriven v ca r core mid = record { steps = c.drive_some-driven.ensures.steps; onward = c.drive_some-driven.ensures.onward } in
    let now : Output = record { held = g.K.Sink.held c.args.out.now; tally = c.args.tally.now } in
    let then : Output = record { held = g.K.Sink.held c.write_piece.new.sink; tally = c.write_piece.new.tally } in
    let short : c.write_piece.result ≡ Err NoRoom = cc in
    let same : c.below-in-Err-Memory.result ≡ c.args.records.now.below = c.below-in-Err-Memory.ensures ∙ ap (λ (t : Told). t.below) (c.write_piece.ensures.kept short) in
    subst (λ f. IsHalted (r task.plan.behaviour) c.args.names.now c.args.until task f first then) (sym same)
    (is_as_before v ca r law c.args.names.now c.args.until task given core mid c.args.records.now first now under driven
    then (c.write_piece.ensures.nothing short))

pub returns-in-Err-Memory-clause-never_falls : goal.returns-in-Err-Memory-clause-never_falls
returns-in-Err-Memory-clause-never_falls g c = c.write_piece.ensures.never_falls
