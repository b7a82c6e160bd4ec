use Rattle.std.proofs.Common.{◌-◌, length, drop, arith}
use Rattle.std.proofs.lemmas.List.{length-take}
use Rattle.step_run.specs.Going.{Output}
use Rattle.step_run.proofs.Going.{round_low}
use Rattle.step_run.proofs.Beginning.{caused_later}
use Rattle.step_run.proofs.Laws.{laws}
use Rattle.step_run.proofs.running.go_on.Goals as goal

pub loop-tried-init : goal.loop-tried-init
loop-tried-init g c = record {
  goes_on = c.requires.goes_on;
  room = c.requires.room;
  used = omega arith;
  faults = omega arith;
  under = λ task given under. under;
}

pub loop-tried-smaller : goal.loop-tried-smaller
loop-tried-smaller g c =
    let go = c.in-Further.ensures.goes_on in
    let low = round_low g.B.Behaviour.valid g.B.Behaviour.carried g.B.Behaviour.reaction (laws g.B.Behaviour.valid g.B.Behaviour.carried g.B.Behaviour.reaction g.met.B.Behaviour.sound g.met.B.Behaviour.modest) c.args.names.now c.args.order.now.until go.task go.given c.advance.new.core go.from go.keeps in
    let risen = c.in-Further.ensures.risen in
    omega (arith, low, risen)

pub loop-tried-preserved : goal.loop-tried-preserved
loop-tried-preserved g c = record {
  goes_on = c.in-Further.ensures.goes_on;
  room = c.in-Further.ensures.room;
  used = (let few = c.in-Further.ensures.used in
      let within = c.loop-tried.invariant.used in
      let piece = length-take (length c.args.order.now.schedule.now - c.loop-tried.used) (drop c.loop-tried.used c.args.order.now.schedule.now) in
      omega (arith, few, within, piece));
  faults = (let before = c.loop-tried.invariant.faults in let here = c.advance.ensures.never_falls in omega (arith, before, here));
  under = λ task given start. c.in-Further.ensures.advanced task (record { held = g.K.Sink.held c.args.out.now; tally = c.args.tally.now }) given (c.loop-tried.invariant.under task given start);
}

pub returns-in-Whole-clause-ended : goal.returns-in-Whole-clause-ended
returns-in-Whole-clause-ended g c = λ task given started start.
    let first : Output = record { held = g.K.Sink.held c.args.out.now; tally = c.args.tally.now } in
    c.write_end.ensures.ended task c.args.names.now first c.advance.new.tally given started (c.in-Whole.ensures.advanced task first given (c.loop-tried.invariant.under task given start))

pub returns-in-Whole-clause-cause : goal.returns-in-Whole-clause-cause
returns-in-Whole-clause-cause g c =
    let before = c.loop-tried.invariant.faults in
    let here = c.advance.ensures.never_falls in
    caused_later (g.K.Sink.faults c.args.out.now) (g.K.Sink.faults c.advance.new.out) (g.K.Sink.faults c.write_end.new.out) c.write_end.result (omega (arith, before, here)) c.write_end.ensures.cause

pub returns-in-Whole-clause-never_falls : goal.returns-in-Whole-clause-never_falls
returns-in-Whole-clause-never_falls g c =
    let before = c.loop-tried.invariant.faults in
    let here = c.advance.ensures.never_falls in
    let then = c.write_end.ensures.never_falls in
    omega (arith, before, here, then)

pub returns-in-Ended-clause-ended : goal.returns-in-Ended-clause-ended
returns-in-Ended-clause-ended g c = λ task given started start.
    c.in-Ended.ensures.advanced task (record { held = g.K.Sink.held c.args.out.now; tally = c.args.tally.now }) given (c.loop-tried.invariant.under task given start)

pub returns-in-Ended-clause-cause : goal.returns-in-Ended-clause-cause
returns-in-Ended-clause-cause g c =
    caused_later (g.K.Sink.faults c.args.out.now) (g.K.Sink.faults c.loop-tried.out) (g.K.Sink.faults c.advance.new.out) c.in-Ended.end c.loop-tried.invariant.faults c.in-Ended.ensures.cause

pub returns-in-Ended-clause-never_falls : goal.returns-in-Ended-clause-never_falls
returns-in-Ended-clause-never_falls g c =
    let before = c.loop-tried.invariant.faults in
    let here = c.advance.ensures.never_falls in
    omega (arith, before, here)
