use Rattle.std.proofs.Common.{◌≡◌, ◌≤◌, ◌+◌, length, sym, ap, ◌∙◌, subst, lit≤, Err}
use Rattle.sim_base.specs.Outside.{AppendsPrefix}
use Rattle.trace_writer.specs.Trace.{entries_text}
use Rattle.trace_writer.specs.Merging.{HasRoom, merged}
use Rattle.trace_writer.specs.declared.merging.MergeFault.TheVariants.{WriteFault, Memory as NoRoom}
use Rattle.core_rules.specs.Cores.{CoreView}
use Rattle.core_rules.specs.Reading.{safe_bound_in}
use Rattle.core_traces.specs.Kept.{histories_of}
use Rattle.step_run.specs.Telling.{Told}
use Rattle.step_run.specs.Going.{Output, IsHalted}
use Rattle.step_run.proofs.Going.{room_on}
use Rattle.worker_pool.specs.Lanes.{HasStopped, HaveStood}
use Rattle.worker_run.specs.Working.{IfStopped}
use Rattle.worker_run.specs.Going.{KeepsFrom, GoesOn, HasAdvanced, IsCaused, IfFurther, IfOver, IfOn, has_finished, piece_bound, piece_left, outcome}
use Rattle.worker_run.proofs.Going.{AreCarried, IsPiece, of_run, can_merge, keeps_less, same_many, has_advanced, is_part, is_as_before, if_further, has_no_fault, stopped_by, is_on, fault_is, left_behind}
use Rattle.worker_run.proofs.Laws.{laws}
use Rattle.worker_run.proofs.running.advance.Goals as goal

pub run_workers-core-requires-clause-run : goal.run_workers-core-requires-clause-run
run_workers-core-requires-clause-run g c κs within =
    let v = g.B.Behaviour.valid in
    let ca = g.B.Behaviour.carried in
    let r = g.B.Behaviour.reaction in
    let met = g.met.B.Behaviour g.world.𝓛 g.world.𝓜 g.world.𝓡 ((λ s x. x), (λ x. x), (λ x. x), λ x. x) in
    let go = c.requires.goes_on in
    of_run v ca r (laws v ca r met.sound met.modest) c.args.names.now c.args.until go.task go.given c.args.core go.from go.keeps

pub run_workers-core-requires-clause-some : goal.run_workers-core-requires-clause-some
run_workers-core-requires-clause-some g c κs within = c.requires.some

pub run_workers-core-requires-clause-few : goal.run_workers-core-requires-clause-few
run_workers-core-requires-clause-few g c κs within = c.requires.lanes

pub run_workers-core-requires-clause-crossings : goal.run_workers-core-requires-clause-crossings
run_workers-core-requires-clause-crossings g c κs within = lit≤ tt

pub write_next-written-requires-clause-until : goal.write_next-written-requires-clause-until
write_next-written-requires-clause-until g c κs within = c.requires.goes_on.given.in_time

pub write_next-written-requires-clause-room : goal.write_next-written-requires-clause-room
write_next-written-requires-clause-room g c κs within =
    let v = g.B.Behaviour.valid in
    let ca = g.B.Behaviour.carried in
    let r = g.B.Behaviour.reaction in
    let met = g.met.B.Behaviour g.world.𝓛 g.world.𝓜 g.world.𝓡 ((λ s x. x), (λ x. x), (λ x. x), λ x. x) in
    let law = laws v ca r met.sound met.modest in
    let mid = c.run_workers-core.result.core in
    let carry : AreCarried v ca r c.args.core mid = record { sound = c.run_workers-core.ensures.sound; same = c.run_workers-core.ensures.same; since = c.run_workers-core.ensures.since; safe = c.run_workers-core.ensures.safe } in
    let go = c.requires.goes_on in
    subst (λ n. HasRoom c.args.names.now n c.args.records.now.room) (sym (same_many v ca r law c.args.names.now c.args.until go.task go.given c.args.core mid go.from go.keeps carry)) c.requires.room

pub write_next-written-requires-clause-histories : goal.write_next-written-requires-clause-histories
write_next-written-requires-clause-histories g c κs within =
    let v = g.B.Behaviour.valid in
    let ca = g.B.Behaviour.carried in
    let r = g.B.Behaviour.reaction in
    let met = g.met.B.Behaviour g.world.𝓛 g.world.𝓜 g.world.𝓡 ((λ s x. x), (λ x. x), (λ x. x), λ x. x) in
    let law = laws v ca r met.sound met.modest in
    let mid = c.run_workers-core.result.core in
    let carry : AreCarried v ca r c.args.core mid = record { sound = c.run_workers-core.ensures.sound; same = c.run_workers-core.ensures.same; since = c.run_workers-core.ensures.since; safe = c.run_workers-core.ensures.safe } in
    let go = c.requires.goes_on in
    can_merge v ca r law c.args.names.now c.args.until go.task go.given c.args.core mid go.from go.keeps carry

pub returns-in-Ok-clause-advanced : goal.returns-in-Ok-clause-advanced
returns-in-Ok-clause-advanced g c = λ task first given under.
    let v = g.B.Behaviour.valid in
    let ca = g.B.Behaviour.carried in
    let r = g.B.Behaviour.reaction in
    let met = g.met.B.Behaviour g.world.𝓛 g.world.𝓜 g.world.𝓡 ((λ s x. x), (λ x. x), (λ x. x), λ x. x) in
    let law = laws v ca r met.sound met.modest in
    let mid = c.run_workers-core.result.core in
    let end = c.run_workers-core.result.end in
    let carry : AreCarried v ca r c.args.core mid = record { sound = c.run_workers-core.ensures.sound; same = c.run_workers-core.ensures.same; since = c.run_workers-core.ensures.since; safe = c.run_workers-core.ensures.safe } in
    let outcome_is : c.outcome_of-advanced.result ≡ outcome end c.write_next-written.new.records.below = c.outcome_of-advanced.ensures ∙ ap (λ f. outcome end f) c.below.ensures in
    let now : Output = record { held = g.K.Sink.held c.args.out.now; tally = c.args.tally.now } in
    let then : Output = record { held = g.K.Sink.held c.write_next-written.new.out; tally = c.write_next-written.new.tally } in
    subst (λ a. HasAdvanced (r task.plan.behaviour) c.args.names.now c.args.until task c.write_next-written.new.core c.write_next-written.new.records first then a) (sym outcome_is)
    (has_advanced v ca r law c.args.names.now c.args.until task given c.args.core mid c.args.records.now first now under carry
    c.write_next-written.new.core c.write_next-written.new.records then end
    (subst (λ l. IsPiece v ca r law c.args.names.now c.args.until task given c.args.core mid c.args.records.now first now under carry l c.write_next-written.new.core c.write_next-written.new.records then) c.is_last.ensures
    (record { left = c.in-Ok.ensures.left; at = c.in-Ok.ensures.bound; counted = c.in-Ok.ensures.count; text = c.in-Ok.ensures.text; tallied = c.in-Ok.ensures.tally }))
    c.run_workers-core.ensures.finished c.run_workers-core.ensures.over)

pub returns-in-Ok-clause-goes_on : goal.returns-in-Ok-clause-goes_on
returns-in-Ok-clause-goes_on g c =
    let v = g.B.Behaviour.valid in
    let ca = g.B.Behaviour.carried in
    let r = g.B.Behaviour.reaction in
    let met = g.met.B.Behaviour g.world.𝓛 g.world.𝓜 g.world.𝓡 ((λ s x. x), (λ x. x), (λ x. x), λ x. x) in
    let law = laws v ca r met.sound met.modest in
    let mid = c.run_workers-core.result.core in
    let end = c.run_workers-core.result.end in
    let after = c.write_next-written.new.core in
    let carry : AreCarried v ca r c.args.core mid = record { sound = c.run_workers-core.ensures.sound; same = c.run_workers-core.ensures.same; since = c.run_workers-core.ensures.since; safe = c.run_workers-core.ensures.safe } in
    let outcome_is : c.outcome_of-advanced.result ≡ outcome end c.below.result = c.outcome_of-advanced.ensures in
    let go = c.requires.goes_on in
    let less = keeps_less v ca r law c.args.names.now c.args.until go.task go.given c.args.core mid go.from go.keeps carry in
    let left : after ≡ piece_left (has_finished end) mid = subst (λ l. after ≡ piece_left l mid) c.is_last.ensures c.in-Ok.ensures.left in
    subst (λ a. IfFurther a (GoesOn v ca r c.args.names.now c.args.until after)) (sym outcome_is)
    (if_further end c.below.result (GoesOn v ca r c.args.names.now c.args.until after) (λ is. record {
      task = go.task;
      given = go.given;
      from = safe_bound_in mid;
      keeps = subst (λ k. KeepsFrom (r go.task.plan.behaviour) c.args.until go.task k (safe_bound_in mid)) (sym (left_behind end mid after left is)) less;
    }))

pub returns-in-Ok-clause-room : goal.returns-in-Ok-clause-room
returns-in-Ok-clause-room g c =
    let v = g.B.Behaviour.valid in
    let ca = g.B.Behaviour.carried in
    let r = g.B.Behaviour.reaction in
    let met = g.met.B.Behaviour g.world.𝓛 g.world.𝓜 g.world.𝓡 ((λ s x. x), (λ x. x), (λ x. x), λ x. x) in
    let law = laws v ca r met.sound met.modest in
    let mid = c.run_workers-core.result.core in
    let end = c.run_workers-core.result.end in
    let after = c.write_next-written.new.core in
    let carry : AreCarried v ca r c.args.core mid = record { sound = c.run_workers-core.ensures.sound; same = c.run_workers-core.ensures.same; since = c.run_workers-core.ensures.since; safe = c.run_workers-core.ensures.safe } in
    let outcome_is : c.outcome_of-advanced.result ≡ outcome end c.below.result = c.outcome_of-advanced.ensures in
    let go = c.requires.goes_on in
    let many = same_many v ca r law c.args.names.now c.args.until go.task go.given c.args.core mid go.from go.keeps carry in
    let left : after ≡ piece_left (has_finished end) mid = subst (λ l. after ≡ piece_left l mid) c.is_last.ensures c.in-Ok.ensures.left in
    let Room = HasRoom c.args.names.now (length after.timelines) c.write_next-written.new.records.room in
    subst (λ a. IfFurther a Room) (sym outcome_is)
    (if_further end c.below.result Room (λ is.
    room_on c.args.names.now c.args.core mid after c.args.records.now.room c.write_next-written.new.records.room (safe_bound_in mid) c.requires.room many (left_behind end mid after left is)
    c.write_next-written.ensures.room.0 c.write_next-written.ensures.room.1))

pub returns-in-Ok-clause-risen : goal.returns-in-Ok-clause-risen
returns-in-Ok-clause-risen g c =
    let mid = c.run_workers-core.result.core in
    let end = c.run_workers-core.result.end in
    let after = c.write_next-written.new.core in
    let old = c.args.core.barrier.round in
    let outcome_is : c.outcome_of-advanced.result ≡ outcome end c.below.result = c.outcome_of-advanced.ensures in
    let left : after ≡ piece_left (has_finished end) mid = subst (λ l. after ≡ piece_left l mid) c.is_last.ensures c.in-Ok.ensures.left in
    subst (λ a. IfFurther a (old + 1024 ≤ after.barrier.round)) (sym outcome_is)
    (if_further end c.below.result (old + 1024 ≤ after.barrier.round) (λ is.
    subst (λ n. old + 1024 ≤ n) (sym (ap (λ (k : CoreView _ _ _). k.barrier.round) (left_behind end mid after left is))) (c.run_workers-core.ensures.crossed is)))

pub returns-in-Ok-clause-cause : goal.returns-in-Ok-clause-cause
returns-in-Ok-clause-cause g c =
    let end = c.run_workers-core.result.end in
    let outcome_is : c.outcome_of-advanced.result ≡ outcome end c.below.result = c.outcome_of-advanced.ensures in
    subst (λ a. IfOver a (λ over. IsCaused (g.K.Sink.faults c.args.out.now) (g.K.Sink.faults c.write_next-written.new.out) over)) (sym outcome_is)
    (has_no_fault (g.K.Sink.faults c.args.out.now) (g.K.Sink.faults c.write_next-written.new.out) end c.below.result)

pub returns-in-Ok-clause-never_falls : goal.returns-in-Ok-clause-never_falls
returns-in-Ok-clause-never_falls g c = c.write_next-written.ensures.never_falls

pub returns-in-Ok-clause-stopped_by : goal.returns-in-Ok-clause-stopped_by
returns-in-Ok-clause-stopped_by g c =
    let end = c.run_workers-core.result.end in
    let outcome_is : c.outcome_of-advanced.result ≡ outcome end c.below.result = c.outcome_of-advanced.ensures in
    subst (λ a. IfOver a (λ over. IfStopped over (λ worker bound. HasStopped g.G.Gate.stops worker c.args.lanes.now c.run_workers-core.new.lanes))) (sym outcome_is)
    (stopped_by end c.below.result (λ worker. HasStopped g.G.Gate.stops worker c.args.lanes.now c.run_workers-core.new.lanes) c.run_workers-core.ensures.stopped)

pub returns-in-Ok-clause-stopped_first : goal.returns-in-Ok-clause-stopped_first
returns-in-Ok-clause-stopped_first g c =
    let end = c.run_workers-core.result.end in
    let outcome_is : c.outcome_of-advanced.result ≡ outcome end c.below.result = c.outcome_of-advanced.ensures in
    subst (λ a. IfOver a (λ over. IfStopped over (λ worker bound. HaveStood g.G.Gate.stops worker c.args.lanes.now c.run_workers-core.new.lanes))) (sym outcome_is)
    (stopped_by end c.below.result (λ worker. HaveStood g.G.Gate.stops worker c.args.lanes.now c.run_workers-core.new.lanes) c.run_workers-core.ensures.first)

pub returns-in-Ok-clause-unstopped : goal.returns-in-Ok-clause-unstopped
returns-in-Ok-clause-unstopped g c =
    let end = c.run_workers-core.result.end in
    let outcome_is : c.outcome_of-advanced.result ≡ outcome end c.below.result = c.outcome_of-advanced.ensures in
    let Stood = HaveStood g.G.Gate.stops (length c.args.lanes.now) c.args.lanes.now c.run_workers-core.new.lanes in
    subst (λ a. IfOn a Stood) (sym outcome_is) (is_on end c.below.result Stood c.run_workers-core.ensures.unstopped)

pub returns-in-Ok-clause-gates : goal.returns-in-Ok-clause-gates
returns-in-Ok-clause-gates g c = c.run_workers-core.ensures.gates

pub returns-in-Ok-clause-lanes : goal.returns-in-Ok-clause-lanes
returns-in-Ok-clause-lanes g c = c.run_workers-core.ensures.lanes

pub returns-in-Err-WriteFault-clause-advanced : goal.returns-in-Err-WriteFault-clause-advanced
returns-in-Err-WriteFault-clause-advanced g c = λ task first given under.
    let v = g.B.Behaviour.valid in
    let ca = g.B.Behaviour.carried in
    let r = g.B.Behaviour.reaction in
    let met = g.met.B.Behaviour g.world.𝓛 g.world.𝓜 g.world.𝓡 ((λ s x. x), (λ x. x), (λ x. x), λ x. x) in
    let law = laws v ca r met.sound met.modest in
    let mid = c.run_workers-core.result.core in
    let end = c.run_workers-core.result.end in
    let carry : AreCarried v ca r c.args.core mid = record { sound = c.run_workers-core.ensures.sound; same = c.run_workers-core.ensures.same; since = c.run_workers-core.ensures.since; safe = c.run_workers-core.ensures.safe } in
    let now : Output = record { held = g.K.Sink.held c.args.out.now; tally = c.args.tally.now } in
    let then : Output = record { held = g.K.Sink.held c.write_next-written.new.out; tally = c.write_next-written.new.tally } in
    let failed : c.write_next-written.result ≡ Err WriteFault = fault_is c.write_next-written.result c.in-Err-WriteFault.field-0 WriteFault c.in-Err-WriteFault.is c.in-Err-WriteFault.field-0-is in
    is_part v ca r law c.args.names.now c.args.until task given c.args.core mid c.args.records.now first now under carry then end c.run_workers-core.ensures.finished
    (subst (λ l. AppendsPrefix (entries_text c.args.names.now (merged (histories_of mid) (piece_bound l c.args.until mid))) now.held then.held) c.is_last.ensures (c.write_next-written.ensures.part failed))

pub returns-in-Err-WriteFault-clause-cause : goal.returns-in-Err-WriteFault-clause-cause
returns-in-Err-WriteFault-clause-cause g c =
    let failed : c.write_next-written.result ≡ Err WriteFault = fault_is c.write_next-written.result c.in-Err-WriteFault.field-0 WriteFault c.in-Err-WriteFault.is c.in-Err-WriteFault.field-0-is in
    c.write_next-written.ensures.cause failed

pub returns-in-Err-WriteFault-clause-never_falls : goal.returns-in-Err-WriteFault-clause-never_falls
returns-in-Err-WriteFault-clause-never_falls g c = c.write_next-written.ensures.never_falls

pub returns-in-Err-WriteFault-clause-gates : goal.returns-in-Err-WriteFault-clause-gates
returns-in-Err-WriteFault-clause-gates g c = c.run_workers-core.ensures.gates

pub returns-in-Err-WriteFault-clause-lanes : goal.returns-in-Err-WriteFault-clause-lanes
returns-in-Err-WriteFault-clause-lanes g c = c.run_workers-core.ensures.lanes

pub returns-in-Err-Memory-clause-advanced : goal.returns-in-Err-Memory-clause-advanced
returns-in-Err-Memory-clause-advanced g c = λ task first given under.
    let v = g.B.Behaviour.valid in
    let ca = g.B.Behaviour.carried in
    let r = g.B.Behaviour.reaction in
    let met = g.met.B.Behaviour g.world.𝓛 g.world.𝓜 g.world.𝓡 ((λ s x. x), (λ x. x), (λ x. x), λ x. x) in
    let law = laws v ca r met.sound met.modest in
    let mid = c.run_workers-core.result.core in
    let carry : AreCarried v ca r c.args.core mid = record { sound = c.run_workers-core.ensures.sound; same = c.run_workers-core.ensures.same; since = c.run_workers-core.ensures.since; safe = c.run_workers-core.ensures.safe } in
    let now : Output = record { held = g.K.Sink.held c.args.out.now; tally = c.args.tally.now } in
    let then : Output = record { held = g.K.Sink.held c.write_next-written.new.out; tally = c.write_next-written.new.tally } in
    let short : c.write_next-written.result ≡ Err NoRoom = fault_is c.write_next-written.result c.in-Err-Memory.field-0 NoRoom c.in-Err-Memory.is c.in-Err-Memory.field-0-is in
    let same : c.below-in-Err-Memory.result ≡ c.args.records.now.below = c.below-in-Err-Memory.ensures ∙ ap (λ (t : Told). t.below) (c.write_next-written.ensures.kept short) in
    subst (λ f. IsHalted (r task.plan.behaviour) c.args.names.now c.args.until task f first then) (sym same)
    (is_as_before v ca r law c.args.names.now c.args.until task given c.args.core mid c.args.records.now first now under carry then (c.write_next-written.ensures.nothing short))

pub returns-in-Err-Memory-clause-never_falls : goal.returns-in-Err-Memory-clause-never_falls
returns-in-Err-Memory-clause-never_falls g c = c.write_next-written.ensures.never_falls

pub returns-in-Err-Memory-clause-gates : goal.returns-in-Err-Memory-clause-gates
returns-in-Err-Memory-clause-gates g c = c.run_workers-core.ensures.gates

pub returns-in-Err-Memory-clause-lanes : goal.returns-in-Err-Memory-clause-lanes
returns-in-Err-Memory-clause-lanes g c = c.run_workers-core.ensures.lanes
