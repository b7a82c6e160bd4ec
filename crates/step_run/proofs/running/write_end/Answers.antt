use Rattle.std.proofs.Common.{◌≡◌, refl, sym, ap, ◌∙◌, subst, Err}
use Rattle.trace_writer.specs.declared.merging.MergeFault.TheVariants.{WriteFault, Memory as NoRoom}
use Rattle.step_run.specs.Telling.{Told}
use Rattle.step_run.specs.Going.{Output, IsHalted, IsFinished}
use Rattle.step_run.proofs.Ending.{ends_finished, ends_cut, ends_short}
use Rattle.step_run.proofs.Laws.{count_law}
use Rattle.step_run.proofs.running.write_end.Goals as goal

pub returns-in-Ok-clause-ended : goal.returns-in-Ok-clause-ended
returns-in-Ok-clause-ended g c = λ task names first tally given started whole.
    let r = g.B.Behaviour.reaction in
    let own = g.B.Behaviour.reaction task.plan.behaviour in
    let then : Output = record { held = g.K.Sink.held c.write_end.new.sink; tally = tally } in
    let base : IsFinished own names c.args.until task c.args.core.now.barrier.round c.args.core.now.barrier.window first then = ends_finished g.B.Behaviour.valid g.B.Behaviour.carried r names c.args.until task given c.args.records.now c.args.core.now.barrier.round c.args.core.now.barrier.window first
    (record { held = g.K.Sink.held c.args.out.now; tally = tally }) whole c.args.before started (count_law g.B.Behaviour.valid g.B.Behaviour.carried r g.met.B.Behaviour.sound g.met.B.Behaviour.modest)
    then refl c.in-Ok.ensures.text in
    subst (λ n. IsFinished own names c.args.until task n c.windows-crossed.result.1 first then) (sym c.windows-crossed.ensures.crossed)
    (subst (λ n. IsFinished own names c.args.until task c.args.core.now.barrier.round n first then) (sym c.windows-crossed.ensures.last) base)

pub returns-in-Ok-clause-never_falls : goal.returns-in-Ok-clause-never_falls
returns-in-Ok-clause-never_falls g c = c.write_end.ensures.never_falls

pub returns-in-Err-WriteFault-clause-ended : goal.returns-in-Err-WriteFault-clause-ended
returns-in-Err-WriteFault-clause-ended g c = λ task names first tally given started whole.
    let failed : c.write_end.result ≡ Err WriteFault = cc in
    let r = g.B.Behaviour.reaction in
    ends_cut g.B.Behaviour.valid g.B.Behaviour.carried r names c.args.until task given c.args.records.now c.args.core.now.barrier.round c.args.core.now.barrier.window first
    (record { held = g.K.Sink.held c.args.out.now; tally = tally }) whole c.args.before started (count_law g.B.Behaviour.valid g.B.Behaviour.carried r g.met.B.Behaviour.sound g.met.B.Behaviour.modest)
    (record { held = g.K.Sink.held c.write_end.new.sink; tally = tally }) (c.write_end.ensures.part failed)

pub returns-in-Err-WriteFault-clause-cause : goal.returns-in-Err-WriteFault-clause-cause
returns-in-Err-WriteFault-clause-cause g c =
    let failed : c.write_end.result ≡ Err WriteFault = cc in
    c.write_end.ensures.cause failed

pub returns-in-Err-WriteFault-clause-never_falls : goal.returns-in-Err-WriteFault-clause-never_falls
returns-in-Err-WriteFault-clause-never_falls g c = c.write_end.ensures.never_falls

pub returns-in-Err-Memory-clause-ended : goal.returns-in-Err-Memory-clause-ended
returns-in-Err-Memory-clause-ended g c = λ task names first tally given started whole.
    let short : c.write_end.result ≡ Err NoRoom = cc in
    let r = g.B.Behaviour.reaction in
    let then : Output = record { held = g.K.Sink.held c.write_end.new.sink; tally = tally } in
    subst (λ f. IsHalted (r task.plan.behaviour) names c.args.until task f first then) (sym (c.below.ensures ∙ ap (λ (t : Told). t.below) c.write_end.ensures.kept))
    (ends_short g.B.Behaviour.valid g.B.Behaviour.carried r names c.args.until task given c.args.records.now c.args.core.now.barrier.round c.args.core.now.barrier.window first
    (record { held = g.K.Sink.held c.args.out.now; tally = tally }) whole c.args.before started (count_law g.B.Behaviour.valid g.B.Behaviour.carried r g.met.B.Behaviour.sound g.met.B.Behaviour.modest)
    then (c.write_end.ensures.nothing short))

pub returns-in-Err-Memory-clause-never_falls : goal.returns-in-Err-Memory-clause-never_falls
returns-in-Err-Memory-clause-never_falls g c = c.write_end.ensures.never_falls
