use Rattle.std.proofs.Common.{◌≡◌, ◌+◌, ◌≤◌, length, subst, refl, arith}
use Rattle.trace_writer.specs.Merging.{HasRoom}
use Rattle.step_run.specs.Going.{Output}
use Rattle.step_run.proofs.Beginning.{caused_later as steps_caused_later}
use Rattle.worker_pool.specs.Lanes.{HasStopped, HaveStood}
use Rattle.worker_run.specs.Working.{IfStopped}
use Rattle.worker_run.specs.declared.running.WorkEnd.TheVariants.{Ended}
use Rattle.worker_run.specs.Going.{GoesOn, HasAdvanced, IfFurther, IfOver, IfOn, IsCaused}
use Rattle.worker_run.proofs.Going.{round_low}
use Rattle.worker_run.proofs.Beginning.{caused_later}
use Rattle.worker_run.proofs.Lanes.{none_falls, falls_not, none_move, stood_all, stopped_later, first_later, unstopped_later, if_unstopped}
use Rattle.worker_run.proofs.Laws.{laws}
use Rattle.worker_run.proofs.running.go_on.Goals as goal

pub loop-next-init : goal.loop-next-init
loop-next-init g c = record {
  goes_on = c.requires.goes_on;
  room = c.requires.room;
  faults = omega arith;
  gates = none_falls g.G.Gate.stops c.args.lanes.now;
  stood = none_move g.G.Gate.stops c.args.lanes.now;
  lanes = refl;
  under = λ task given under. under;
}

pub advance-next-requires-clause-goes_on : goal.advance-next-requires-clause-goes_on
advance-next-requires-clause-goes_on g c κs within = c.loop-next.invariant.goes_on

pub advance-next-requires-clause-room : goal.advance-next-requires-clause-room
advance-next-requires-clause-room g c κs within = c.loop-next.invariant.room

pub advance-next-requires-clause-some : goal.advance-next-requires-clause-some
advance-next-requires-clause-some g c κs within = (let many = c.loop-next.invariant.lanes in let some = c.requires.some in omega (arith, many, some))

pub advance-next-requires-clause-lanes : goal.advance-next-requires-clause-lanes
advance-next-requires-clause-lanes g c κs within = (let many = c.loop-next.invariant.lanes in let few = c.requires.lanes in omega (arith, many, few))

pub loop-next-smaller : goal.loop-next-smaller
loop-next-smaller g c =
    let v = g.B.Behaviour.valid in
    let ca = g.B.Behaviour.carried in
    let r = g.B.Behaviour.reaction in
    let met = g.met.B.Behaviour g.world.𝓛 g.world.𝓜 g.world.𝓡 ((λ s x. x), (λ x. x), (λ x. x), λ x. x) in
    let after = c.advance-next.result.core in
    let go : GoesOn v ca r c.args.names.now c.args.until after = subst (λ a. IfFurther a (GoesOn v ca r c.args.names.now c.args.until after)) c.in-Further.is c.advance-next.ensures.goes_on in
    let low = round_low v ca r (laws v ca r met.sound met.modest) c.args.names.now c.args.until go.task go.given after go.from go.keeps in
    let risen : c.loop-next.core.barrier.round + 1024 ≤ after.barrier.round = subst (λ a. IfFurther a (c.loop-next.core.barrier.round + 1024 ≤ after.barrier.round)) c.in-Further.is c.advance-next.ensures.risen in
    omega (arith, low, risen)

pub loop-next-preserved : goal.loop-next-preserved
loop-next-preserved g c =
    let v = g.B.Behaviour.valid in
    let ca = g.B.Behaviour.carried in
    let r = g.B.Behaviour.reaction in
    let after = c.advance-next.result.core in
    let Room = HasRoom c.args.names.now (length after.timelines) c.advance-next.new.records.room in
    let many : length c.loop-next.lanes ≡ length c.args.lanes.now = c.loop-next.invariant.lanes in
    record {
      goes_on = subst (λ a. IfFurther a (GoesOn v ca r c.args.names.now c.args.until after)) c.in-Further.is c.advance-next.ensures.goes_on;
      room = subst (λ a. IfFurther a Room) c.in-Further.is c.advance-next.ensures.room;
      faults = (let before = c.loop-next.invariant.faults in let here = c.advance-next.ensures.never_falls in omega (arith, before, here));
      gates = falls_not g.G.Gate.stops c.args.lanes.now c.loop-next.lanes c.advance-next.new.lanes many c.loop-next.invariant.gates c.advance-next.ensures.gates;
      stood = stood_all g.G.Gate.stops c.args.lanes.now c.loop-next.lanes c.advance-next.new.lanes many c.loop-next.invariant.stood
          (subst (λ a. IfOn a (HaveStood g.G.Gate.stops (length c.loop-next.lanes) c.loop-next.lanes c.advance-next.new.lanes)) c.in-Further.is c.advance-next.ensures.unstopped);
      lanes = (let here = c.advance-next.ensures.lanes in omega (arith, here, many));
      under = λ task given start.
          let first : Output = record { held = g.K.Sink.held c.args.out.now; tally = c.args.tally.now } in
          let now : Output = record { held = g.K.Sink.held c.advance-next.new.out; tally = c.advance-next.new.tally } in
          subst (λ a. HasAdvanced (r task.plan.behaviour) c.args.names.now c.args.until task after c.advance-next.new.records first now a) c.in-Further.is
          (c.advance-next.ensures.advanced task first given (c.loop-next.invariant.under task given start));
    }

pub returns-in-Whole-clause-ended : goal.returns-in-Whole-clause-ended
returns-in-Whole-clause-ended g c = λ task given started start.
    let r = g.B.Behaviour.reaction in
    let first : Output = record { held = g.K.Sink.held c.args.out.now; tally = c.args.tally.now } in
    let now : Output = record { held = g.K.Sink.held c.advance-next.new.out; tally = c.advance-next.new.tally } in
    c.write_end.ensures.ended task c.args.names.now first c.advance-next.new.tally given started
    (subst (λ a. HasAdvanced (r task.plan.behaviour) c.args.names.now c.args.until task c.advance-next.result.core c.advance-next.new.records first now a) c.in-Whole.is
    (c.advance-next.ensures.advanced task first given (c.loop-next.invariant.under task given start)))

pub returns-in-Whole-clause-cause : goal.returns-in-Whole-clause-cause
returns-in-Whole-clause-cause g c =
    let before = c.loop-next.invariant.faults in
    let here = c.advance-next.ensures.never_falls in
    steps_caused_later (g.K.Sink.faults c.args.out.now) (g.K.Sink.faults c.advance-next.new.out) (g.K.Sink.faults c.write_end.new.out) c.write_end.result (omega (arith, before, here)) c.write_end.ensures.cause

pub returns-in-Whole-clause-never_falls : goal.returns-in-Whole-clause-never_falls
returns-in-Whole-clause-never_falls g c =
    let before = c.loop-next.invariant.faults in
    let here = c.advance-next.ensures.never_falls in
    let then = c.write_end.ensures.never_falls in
    omega (arith, before, here, then)

pub returns-in-Whole-clause-gates : goal.returns-in-Whole-clause-gates
returns-in-Whole-clause-gates g c =
    falls_not g.G.Gate.stops c.args.lanes.now c.loop-next.lanes c.advance-next.new.lanes c.loop-next.invariant.lanes c.loop-next.invariant.gates c.advance-next.ensures.gates

pub returns-in-Whole-clause-unstopped : goal.returns-in-Whole-clause-unstopped
returns-in-Whole-clause-unstopped g c =
    if_unstopped (Ended c.write_end.result) (HaveStood g.G.Gate.stops (length c.args.lanes.now) c.args.lanes.now c.advance-next.new.lanes)
    (stood_all g.G.Gate.stops c.args.lanes.now c.loop-next.lanes c.advance-next.new.lanes c.loop-next.invariant.lanes c.loop-next.invariant.stood
    (subst (λ a. IfOn a (HaveStood g.G.Gate.stops (length c.loop-next.lanes) c.loop-next.lanes c.advance-next.new.lanes)) c.in-Whole.is c.advance-next.ensures.unstopped))

pub returns-in-Whole-clause-lanes : goal.returns-in-Whole-clause-lanes
returns-in-Whole-clause-lanes g c = (let here = c.advance-next.ensures.lanes in let before = c.loop-next.invariant.lanes in omega (arith, here, before))

pub returns-in-Over-clause-ended : goal.returns-in-Over-clause-ended
returns-in-Over-clause-ended g c = λ task given started start.
    let r = g.B.Behaviour.reaction in
    let first : Output = record { held = g.K.Sink.held c.args.out.now; tally = c.args.tally.now } in
    let now : Output = record { held = g.K.Sink.held c.advance-next.new.out; tally = c.advance-next.new.tally } in
    subst (λ a. HasAdvanced (r task.plan.behaviour) c.args.names.now c.args.until task c.advance-next.result.core c.advance-next.new.records first now a) c.in-Over.is
    (c.advance-next.ensures.advanced task first given (c.loop-next.invariant.under task given start))

pub returns-in-Over-clause-cause : goal.returns-in-Over-clause-cause
returns-in-Over-clause-cause g c =
    caused_later (g.K.Sink.faults c.args.out.now) (g.K.Sink.faults c.loop-next.out) (g.K.Sink.faults c.advance-next.new.out) c.in-Over.end c.loop-next.invariant.faults
    (subst (λ a. IfOver a (λ over. IsCaused (g.K.Sink.faults c.loop-next.out) (g.K.Sink.faults c.advance-next.new.out) over)) c.in-Over.is c.advance-next.ensures.cause)

pub returns-in-Over-clause-never_falls : goal.returns-in-Over-clause-never_falls
returns-in-Over-clause-never_falls g c =
    let before = c.loop-next.invariant.faults in
    let here = c.advance-next.ensures.never_falls in
    omega (arith, before, here)

pub returns-in-Over-clause-stopped_by : goal.returns-in-Over-clause-stopped_by
returns-in-Over-clause-stopped_by g c =
    stopped_later g.G.Gate.stops c.args.lanes.now c.loop-next.lanes c.advance-next.new.lanes c.loop-next.invariant.lanes c.loop-next.invariant.gates c.in-Over.end
    (subst (λ a. IfOver a (λ over. IfStopped over (λ worker below. HasStopped g.G.Gate.stops worker c.loop-next.lanes c.advance-next.new.lanes))) c.in-Over.is c.advance-next.ensures.stopped_by)

pub returns-in-Over-clause-stopped_first : goal.returns-in-Over-clause-stopped_first
returns-in-Over-clause-stopped_first g c =
    first_later g.G.Gate.stops c.args.lanes.now c.loop-next.lanes c.advance-next.new.lanes c.loop-next.invariant.lanes c.loop-next.invariant.stood c.in-Over.end
    (subst (λ a. IfOver a (λ over. IfStopped over (λ worker below. HaveStood g.G.Gate.stops worker c.loop-next.lanes c.advance-next.new.lanes))) c.in-Over.is c.advance-next.ensures.stopped_first)

pub returns-in-Over-clause-unstopped : goal.returns-in-Over-clause-unstopped
returns-in-Over-clause-unstopped g c =
    unstopped_later g.G.Gate.stops c.args.lanes.now c.loop-next.lanes c.advance-next.new.lanes c.loop-next.invariant.lanes c.loop-next.invariant.stood c.in-Over.end
    (subst (λ a. IfOn a (HaveStood g.G.Gate.stops (length c.loop-next.lanes) c.loop-next.lanes c.advance-next.new.lanes)) c.in-Over.is c.advance-next.ensures.unstopped)

pub returns-in-Over-clause-gates : goal.returns-in-Over-clause-gates
returns-in-Over-clause-gates g c =
    falls_not g.G.Gate.stops c.args.lanes.now c.loop-next.lanes c.advance-next.new.lanes c.loop-next.invariant.lanes c.loop-next.invariant.gates c.advance-next.ensures.gates

pub returns-in-Over-clause-lanes : goal.returns-in-Over-clause-lanes
returns-in-Over-clause-lanes g c = (let here = c.advance-next.ensures.lanes in let before = c.loop-next.invariant.lanes in omega (arith, here, before))
