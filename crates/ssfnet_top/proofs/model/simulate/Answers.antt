use Rattle.ssfnet_top.specs.Answering.{told_text}
use Rattle.ssfnet_top.proofs.Courses.{by_one_list, on_its_timelines, unbegun_by_list, unbegun_on_timelines}
use Rattle.ssfnet_top.proofs.model.simulate.Goals as goal

pub returns-in-OneList-clause-due : goal.returns-in-OneList-clause-due
returns-in-OneList-clause-due g c =
    by_one_list (g.B.Behaviour.reaction c.args.built.plan.behaviour) c.args.built c.args.running.now c.run_by_list.result (g.K.Sink.faults c.args.out.now) (g.K.Sink.faults c.run_by_list.new.out) (g.K.Sink.held c.args.out.now) (g.K.Sink.held c.run_by_list.new.out)
    c.run_by_list.new.report.items c.args.told.now.windows c.in-OneList.is c.requires.untold.1 c.run_by_list.ensures.due

pub returns-in-Timelines-clause-due : goal.returns-in-Timelines-clause-due
returns-in-Timelines-clause-due g c =
    on_its_timelines (g.B.Behaviour.reaction c.args.built.plan.behaviour) c.args.built c.args.running.now c.run_on_timelines.result (g.K.Sink.faults c.args.out.now) (g.K.Sink.faults c.run_on_timelines.new.out) (g.K.Sink.held c.args.out.now) (g.K.Sink.held c.run_on_timelines.new.out)
    (told_text c.run_on_timelines.new.told) c.in-Timelines.mode c.in-Timelines.threshold c.in-Timelines.is c.run_on_timelines.ensures.due

pub returns-in-OneList-clause-unbegun : goal.returns-in-OneList-clause-unbegun
returns-in-OneList-clause-unbegun g c = unbegun_by_list c.run_by_list.result c.args.running.now.way (g.K.Sink.held c.args.out.now) (g.K.Sink.held c.run_by_list.new.out) c.in-OneList.is

pub returns-in-Timelines-clause-unbegun : goal.returns-in-Timelines-clause-unbegun
returns-in-Timelines-clause-unbegun g c =
    unbegun_on_timelines c.run_on_timelines.result c.args.running.now.way (g.K.Sink.held c.args.out.now) (g.K.Sink.held c.run_on_timelines.new.out) c.run_on_timelines.ensures.unbegun
