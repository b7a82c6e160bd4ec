use Rattle.std.specs.Prelude.{length}
use Rattle.ssfnet_top.specs.Answering.{told_text}
use Rattle.ssfnet_top.proofs.Stepping.{HasRun, with_nets, ended_due, ended_told, ended_cause, ended_write, ended_nothing, ended_unbegun, gives_nothing, gives_stop}
use Rattle.ssfnet_top.proofs.Stopping.{if_ended, if_stopped, begun_ended, begun_stopped, not_stopped, steps_or_stop, stop_of, stop_cause}
use Rattle.ssfnet_top.proofs.Endings.{appends_nothing}
use Rattle.ssfnet_top.proofs.workers.run_with_workers.Goals as goal

pub returns-in-Err-clause-due : goal.returns-in-Err-clause-due
returns-in-Err-clause-due g c =
    let b = c.args.built in
    let o = c.args.order.now in
    let f = g.K.Sink.faults c.args.out.now in
    let h = g.K.Sink.held c.args.out.now in
    gives_nothing (g.B.Behaviour.reaction b.plan.behaviour) b.plan b.names b.nets o.mode o.threshold o.until o.budget c.args.report f f h h (told_text c.make_room.new.told) (appends_nothing h)

pub returns-in-Err-clause-unbegun : goal.returns-in-Err-clause-unbegun
returns-in-Err-clause-unbegun g c = λ short. appends_nothing (g.K.Sink.held c.args.out.now)

pub returns-in-Ended-clause-due : goal.returns-in-Ended-clause-due
returns-in-Ended-clause-due g c =
    let b = c.args.built in
    let o = c.args.order.now in
    let r = g.B.Behaviour.reaction b.plan.behaviour in
    let f = g.K.Sink.faults c.args.out.now in
    let f' = g.K.Sink.faults c.run_by_workers.new.out in
    let h = g.K.Sink.held c.args.out.now in
    let h' = g.K.Sink.held c.run_by_workers.new.out in
    let n = c.as_slice.result.now in
    let w = c.run_by_workers.result in
    let e = c.in-Ended.end in
    let is = c.in-Ended.is in
    let run : HasRun r b.plan b.names n o.mode o.threshold o.until o.budget c.args.report f f' h h' e c.new-tally.result c.run_by_workers.new.tally = record {
      trace = if_ended w e _ is c.run_by_workers.ensures.trace;
      few = if_ended w e _ is c.run_by_workers.ensures.few;
      windows = if_ended w e _ is c.run_by_workers.ensures.windows;
      over = if_ended w e _ is c.run_by_workers.ensures.over;
      budget_ends = if_ended w e _ is c.run_by_workers.ensures.budget_ends;
      stopped = if_ended w e _ is c.run_by_workers.ensures.first_over;
      inside = if_ended w e _ is c.run_by_workers.ensures.inside;
      memory_below = if_ended w e _ is c.run_by_workers.ensures.memory_below;
      in_budget = if_ended w e _ is c.run_by_workers.ensures.in_budget;
      nothing = if_ended w e _ is c.run_by_workers.ensures.nothing;
      too_many = if_ended w e _ is c.run_by_workers.ensures.too_many;
      begun = begun_ended w e _ is c.run_by_workers.ensures.begun;
      part = if_ended w e _ is c.run_by_workers.ensures.part;
      cause = if_ended w e _ is c.run_by_workers.ensures.cause;
    } in
    with_nets r b.plan b.names b.nets n o.mode o.threshold o.until o.budget c.args.report f f' h h' (told_text c.answer_end.new.told) _ c.as_slice.ensures
    (ended_due r b.plan b.names n o.mode o.threshold o.until o.budget c.args.report f f' h h' e c.answer_end.result c.answer_end.ensures.answer
    c.new-tally.result c.run_by_workers.new.tally (told_text c.answer_end.new.told) c.new-tally.ensures run c.answer_end.ensures.told)

pub returns-in-Ended-clause-told : goal.returns-in-Ended-clause-told
returns-in-Ended-clause-told g c =
    let b = c.args.built in
    let o = c.args.order.now in
    let r = g.B.Behaviour.reaction b.plan.behaviour in
    let f = g.K.Sink.faults c.args.out.now in
    let f' = g.K.Sink.faults c.run_by_workers.new.out in
    let h = g.K.Sink.held c.args.out.now in
    let h' = g.K.Sink.held c.run_by_workers.new.out in
    let n = c.as_slice.result.now in
    let w = c.run_by_workers.result in
    let e = c.in-Ended.end in
    let is = c.in-Ended.is in
    ended_told r b.plan b.names n o.mode o.threshold o.until o.budget c.args.report f f' h h' e c.answer_end.result c.answer_end.ensures.answer c.new-tally.result c.run_by_workers.new.tally (told_text c.answer_end.new.told) c.new-tally.ensures (if_ended w e _ is c.run_by_workers.ensures.trace) c.answer_end.ensures.told

pub returns-in-Ended-clause-cause : goal.returns-in-Ended-clause-cause
returns-in-Ended-clause-cause g c =
    let b = c.args.built in
    let o = c.args.order.now in
    let r = g.B.Behaviour.reaction b.plan.behaviour in
    let f = g.K.Sink.faults c.args.out.now in
    let f' = g.K.Sink.faults c.run_by_workers.new.out in
    let h = g.K.Sink.held c.args.out.now in
    let h' = g.K.Sink.held c.run_by_workers.new.out in
    let n = c.as_slice.result.now in
    let w = c.run_by_workers.result in
    let e = c.in-Ended.end in
    let is = c.in-Ended.is in
    steps_or_stop o.budget (length c.args.lanes.now) c.answer_end.result (ended_cause r b.plan b.names n o.mode o.threshold o.until o.budget c.args.report f f' h h' e c.answer_end.result c.answer_end.ensures.answer)

pub returns-in-Ended-clause-stopped : goal.returns-in-Ended-clause-stopped
returns-in-Ended-clause-stopped g c =
    let b = c.args.built in
    let o = c.args.order.now in
    let r = g.B.Behaviour.reaction b.plan.behaviour in
    let f = g.K.Sink.faults c.args.out.now in
    let f' = g.K.Sink.faults c.run_by_workers.new.out in
    let h = g.K.Sink.held c.args.out.now in
    let h' = g.K.Sink.held c.run_by_workers.new.out in
    let n = c.as_slice.result.now in
    let w = c.run_by_workers.result in
    let e = c.in-Ended.end in
    let is = c.in-Ended.is in
    not_stopped o.budget c.answer_end.result _ (ended_cause r b.plan b.names n o.mode o.threshold o.until o.budget c.args.report f f' h h' e c.answer_end.result c.answer_end.ensures.answer)

pub returns-in-Ended-clause-write : goal.returns-in-Ended-clause-write
returns-in-Ended-clause-write g c =
    let b = c.args.built in
    let o = c.args.order.now in
    let r = g.B.Behaviour.reaction b.plan.behaviour in
    let f = g.K.Sink.faults c.args.out.now in
    let f' = g.K.Sink.faults c.run_by_workers.new.out in
    let h = g.K.Sink.held c.args.out.now in
    let h' = g.K.Sink.held c.run_by_workers.new.out in
    let n = c.as_slice.result.now in
    let w = c.run_by_workers.result in
    let e = c.in-Ended.end in
    let is = c.in-Ended.is in
    ended_write r b.plan b.names n o.mode o.threshold o.until o.budget c.args.report f f' h h' e c.answer_end.result c.answer_end.ensures.answer (if_ended w e _ is c.run_by_workers.ensures.cause)

pub returns-in-Ended-clause-nothing : goal.returns-in-Ended-clause-nothing
returns-in-Ended-clause-nothing g c =
    let b = c.args.built in
    let o = c.args.order.now in
    let r = g.B.Behaviour.reaction b.plan.behaviour in
    let f = g.K.Sink.faults c.args.out.now in
    let f' = g.K.Sink.faults c.run_by_workers.new.out in
    let h = g.K.Sink.held c.args.out.now in
    let h' = g.K.Sink.held c.run_by_workers.new.out in
    let n = c.as_slice.result.now in
    let w = c.run_by_workers.result in
    let e = c.in-Ended.end in
    let is = c.in-Ended.is in
    ended_nothing r b.plan b.names n o.mode o.threshold o.until o.budget c.args.report f f' h h' e c.answer_end.result c.answer_end.ensures.answer (if_ended w e _ is c.run_by_workers.ensures.nothing)

pub returns-in-Ended-clause-unbegun : goal.returns-in-Ended-clause-unbegun
returns-in-Ended-clause-unbegun g c =
    let b = c.args.built in
    let o = c.args.order.now in
    let r = g.B.Behaviour.reaction b.plan.behaviour in
    let f = g.K.Sink.faults c.args.out.now in
    let f' = g.K.Sink.faults c.run_by_workers.new.out in
    let h = g.K.Sink.held c.args.out.now in
    let h' = g.K.Sink.held c.run_by_workers.new.out in
    let n = c.as_slice.result.now in
    let w = c.run_by_workers.result in
    let e = c.in-Ended.end in
    let is = c.in-Ended.is in
    ended_unbegun r b.plan b.names n o.mode o.threshold o.until o.budget c.args.report f f' h h' e c.answer_end.result c.answer_end.ensures.answer (if_ended w e _ is c.run_by_workers.ensures.nothing)

pub returns-clause-due : goal.returns-clause-due
returns-clause-due g c =
    let b = c.args.built in
    let o = c.args.order.now in
    let r = g.B.Behaviour.reaction b.plan.behaviour in
    let f = g.K.Sink.faults c.args.out.now in
    let f' = g.K.Sink.faults c.run_by_workers.new.out in
    let h = g.K.Sink.held c.args.out.now in
    let h' = g.K.Sink.held c.run_by_workers.new.out in
    let n = c.as_slice.result.now in
    let w = c.run_by_workers.result in
    let i = c.in-Stopped.worker in
    let below = c.in-Stopped.below in
    let is = c.in-Stopped.is in
    with_nets r b.plan b.names b.nets n o.mode o.threshold o.until o.budget c.args.report f f' h h' (told_text c.make_room.new.told) _ c.as_slice.ensures
    (gives_stop r b.plan b.names n o.mode o.threshold o.until o.budget c.args.report f f' h h' i below (told_text c.make_room.new.told) (begun_stopped w i below _ is c.run_by_workers.ensures.begun) (if_stopped w i below _ is c.run_by_workers.ensures.stopped_inside)
    (if_stopped w i below _ is c.run_by_workers.ensures.stopped_in_budget) (if_stopped w i below _ is c.run_by_workers.ensures.stopped))

pub returns-clause-stopped : goal.returns-clause-stopped
returns-clause-stopped g c =
    let b = c.args.built in
    let o = c.args.order.now in
    let r = g.B.Behaviour.reaction b.plan.behaviour in
    let f = g.K.Sink.faults c.args.out.now in
    let f' = g.K.Sink.faults c.run_by_workers.new.out in
    let h = g.K.Sink.held c.args.out.now in
    let h' = g.K.Sink.held c.run_by_workers.new.out in
    let n = c.as_slice.result.now in
    let w = c.run_by_workers.result in
    let i = c.in-Stopped.worker in
    let below = c.in-Stopped.below in
    let is = c.in-Stopped.is in
    stop_of g.G.Gate.stops i below c.args.lanes.now c.run_by_workers.new.lanes (if_stopped w i below _ is c.run_by_workers.ensures.stopped_by)

pub returns-clause-cause : goal.returns-clause-cause
returns-clause-cause g c =
    let b = c.args.built in
    let o = c.args.order.now in
    let r = g.B.Behaviour.reaction b.plan.behaviour in
    let f = g.K.Sink.faults c.args.out.now in
    let f' = g.K.Sink.faults c.run_by_workers.new.out in
    let h = g.K.Sink.held c.args.out.now in
    let h' = g.K.Sink.held c.run_by_workers.new.out in
    let n = c.as_slice.result.now in
    let w = c.run_by_workers.result in
    let i = c.in-Stopped.worker in
    let below = c.in-Stopped.below in
    let is = c.in-Stopped.is in
    stop_cause g.G.Gate.stops o.budget i below c.args.lanes.now c.run_by_workers.new.lanes (if_stopped w i below _ is c.run_by_workers.ensures.stopped_by)
