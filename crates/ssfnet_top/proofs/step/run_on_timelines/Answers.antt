use Rattle.ssfnet_top.specs.Answering.{told_text}
use Rattle.ssfnet_top.proofs.Stepping.{HasRun, with_nets, ended_due, ended_told, ended_cause, ended_write, ended_nothing, ended_unbegun}
use Rattle.ssfnet_top.proofs.step.run_on_timelines.Goals as goal

pub returns-clause-due : goal.returns-clause-due
returns-clause-due g c =
    let b = c.args.built in
    let o = c.args.order.now in
    let r = g.B.Behaviour.reaction b.plan.behaviour in
    let f = g.K.Sink.faults c.args.out.now in
    let f' = g.K.Sink.faults c.run_steps-end.new.out in
    let h = g.K.Sink.held c.args.out.now in
    let h' = g.K.Sink.held c.run_steps-end.new.out in
    let n = c.as_slice.result.now in
    let run : HasRun r b.plan b.names n o.mode o.threshold o.until o.budget c.args.report f f' h h' c.run_steps-end.result c.new-tally.result c.run_steps-end.new.tally = record {
      trace = c.run_steps-end.ensures.trace;
      few = c.run_steps-end.ensures.few;
      windows = c.run_steps-end.ensures.windows;
      over = c.run_steps-end.ensures.over;
      budget_ends = c.run_steps-end.ensures.budget_ends;
      stopped = c.run_steps-end.ensures.stopped;
      inside = c.run_steps-end.ensures.inside;
      memory_below = c.run_steps-end.ensures.memory_below;
      in_budget = c.run_steps-end.ensures.in_budget;
      nothing = c.run_steps-end.ensures.nothing;
      too_many = c.run_steps-end.ensures.too_many;
      begun = c.run_steps-end.ensures.begun;
      part = c.run_steps-end.ensures.part;
      cause = c.run_steps-end.ensures.cause;
    } in
    with_nets r b.plan b.names b.nets n o.mode o.threshold o.until o.budget c.args.report f f' h h' (told_text c.answer_end.new.told) _ c.as_slice.ensures
    (ended_due r b.plan b.names n o.mode o.threshold o.until o.budget c.args.report f f' h h' c.run_steps-end.result c.answer_end.result c.answer_end.ensures.answer
    c.new-tally.result c.run_steps-end.new.tally (told_text c.answer_end.new.told) c.new-tally.ensures run c.answer_end.ensures.told)

pub returns-clause-told : goal.returns-clause-told
returns-clause-told g c =
    let b = c.args.built in
    let o = c.args.order.now in
    let r = g.B.Behaviour.reaction b.plan.behaviour in
    let f = g.K.Sink.faults c.args.out.now in
    let f' = g.K.Sink.faults c.run_steps-end.new.out in
    let h = g.K.Sink.held c.args.out.now in
    let h' = g.K.Sink.held c.run_steps-end.new.out in
    ended_told r b.plan b.names c.as_slice.result.now o.mode o.threshold o.until o.budget c.args.report f f' h h' c.run_steps-end.result c.answer_end.result c.answer_end.ensures.answer c.new-tally.result c.run_steps-end.new.tally (told_text c.answer_end.new.told) c.new-tally.ensures c.run_steps-end.ensures.trace c.answer_end.ensures.told

pub returns-clause-cause : goal.returns-clause-cause
returns-clause-cause g c =
    let b = c.args.built in
    let o = c.args.order.now in
    let r = g.B.Behaviour.reaction b.plan.behaviour in
    let f = g.K.Sink.faults c.args.out.now in
    let f' = g.K.Sink.faults c.run_steps-end.new.out in
    let h = g.K.Sink.held c.args.out.now in
    let h' = g.K.Sink.held c.run_steps-end.new.out in
    ended_cause r b.plan b.names c.as_slice.result.now o.mode o.threshold o.until o.budget c.args.report f f' h h' c.run_steps-end.result c.answer_end.result c.answer_end.ensures.answer

pub returns-clause-write : goal.returns-clause-write
returns-clause-write g c =
    let b = c.args.built in
    let o = c.args.order.now in
    let r = g.B.Behaviour.reaction b.plan.behaviour in
    let f = g.K.Sink.faults c.args.out.now in
    let f' = g.K.Sink.faults c.run_steps-end.new.out in
    let h = g.K.Sink.held c.args.out.now in
    let h' = g.K.Sink.held c.run_steps-end.new.out in
    ended_write r b.plan b.names c.as_slice.result.now o.mode o.threshold o.until o.budget c.args.report f f' h h' c.run_steps-end.result c.answer_end.result c.answer_end.ensures.answer c.run_steps-end.ensures.cause

pub returns-clause-nothing : goal.returns-clause-nothing
returns-clause-nothing g c =
    let b = c.args.built in
    let o = c.args.order.now in
    let r = g.B.Behaviour.reaction b.plan.behaviour in
    let f = g.K.Sink.faults c.args.out.now in
    let f' = g.K.Sink.faults c.run_steps-end.new.out in
    let h = g.K.Sink.held c.args.out.now in
    let h' = g.K.Sink.held c.run_steps-end.new.out in
    ended_nothing r b.plan b.names c.as_slice.result.now o.mode o.threshold o.until o.budget c.args.report f f' h h' c.run_steps-end.result c.answer_end.result c.answer_end.ensures.answer c.run_steps-end.ensures.nothing

pub returns-clause-unbegun : goal.returns-clause-unbegun
returns-clause-unbegun g c =
    let b = c.args.built in
    let o = c.args.order.now in
    let r = g.B.Behaviour.reaction b.plan.behaviour in
    let f = g.K.Sink.faults c.args.out.now in
    let f' = g.K.Sink.faults c.run_steps-end.new.out in
    let h = g.K.Sink.held c.args.out.now in
    let h' = g.K.Sink.held c.run_steps-end.new.out in
    ended_unbegun r b.plan b.names c.as_slice.result.now o.mode o.threshold o.until o.budget c.args.report f f' h h' c.run_steps-end.result c.answer_end.result c.answer_end.ensures.answer c.run_steps-end.ensures.nothing
