use Rattle.std.proofs.Common.{map, string_bytes}
use Rattle.ssfnet_top.specs.Outcome.{resolved_of}
use Rattle.ssfnet_top.specs.Answering.{by_workers, told_text}
use Rattle.ssfnet_top.proofs.Courses.{runs_hosts, runs_ring, runs_none}
use Rattle.ssfnet_top.proofs.workers.run_model_by_workers.Goals as goal

pub returns-in-Ok-Hosts-clause-due : goal.returns-in-Ok-Hosts-clause-due
returns-in-Ok-Hosts-clause-due g c =
    let here = c.in-Ok-Hosts in
    let call = c.run_with_workers in
    runs_hosts (by_workers c.args.order.now c.args.report) (resolved_of (map string_bytes c.args.names.now) c.args.tree.now) (told_text call.new.told) call.result (g.K.Sink.faults c.args.out.now) (g.K.Sink.faults call.new.out) (g.K.Sink.held c.args.out.now) (g.K.Sink.held call.new.out)
    here.field-0 here.built here.field-0-is here.ensures.planned call.ensures.due

pub returns-in-Ok-Ring-clause-due : goal.returns-in-Ok-Ring-clause-due
returns-in-Ok-Ring-clause-due g c =
    let here = c.in-Ok-Ring in
    let call = c.run_with_workers-in-Ok-Ring in
    runs_ring (by_workers c.args.order.now c.args.report) (resolved_of (map string_bytes c.args.names.now) c.args.tree.now) (told_text call.new.told) call.result (g.K.Sink.faults c.args.out.now) (g.K.Sink.faults call.new.out) (g.K.Sink.held c.args.out.now) (g.K.Sink.held call.new.out)
    here.field-0 here.built here.field-0-is here.ensures.planned call.ensures.due

pub returns-in-Err-clause-due : goal.returns-in-Err-clause-due
returns-in-Err-clause-due g c =
    runs_none (by_workers c.args.order.now c.args.report) (resolved_of (map string_bytes c.args.names.now) c.args.tree.now) (told_text c.args.told.now) c.in-Err.refusal (g.K.Sink.faults c.args.out.now) (g.K.Sink.held c.args.out.now) c.in-Err.ensures.fault
