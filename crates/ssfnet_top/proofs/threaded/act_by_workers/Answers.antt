use Rattle.std.proofs.Common.{◌⊎◌, subst, length, take, map, string_bytes}
use Rattle.alignment.specs.declared.labels.Mode.{Mode}
use Rattle.command_words.specs.declared.command.Command.TheVariants as commands
use Rattle.ssfnet_top.specs.declared.running.Running.{Running}
use Rattle.ssfnet_top.specs.declared.running.Way.TheVariants as way
use Rattle.ssfnet_top.specs.Outcome.{resolved_of, IsModelRun}
use Rattle.ssfnet_top.specs.Outcome.Course.{Ended, Midway}
use Rattle.ssfnet_top.specs.Answering.{Answers, AnswersMidway, told_text}
use Rattle.ssfnet_top.proofs.Acting.{acted, caused, worked_cause}
use Rattle.ssfnet_top.proofs.Stopping.{few_taken, stopped_of_all, not_fallen_of_all}
use Rattle.ssfnet_top.proofs.threaded.act_by_workers.Goals as goal

pub returns-in-Run-clause-due : goal.returns-in-Run-clause-due
returns-in-Run-clause-due g c =
    let here = c.in-Run in
    let call = c.run_model_by_workers in
    let f = g.K.Sink.faults c.args.out.now in
    let f' = g.K.Sink.faults call.new.out in
    let h = g.K.Sink.held c.args.out.now in
    let h' = g.K.Sink.held call.new.out in
    let report = told_text call.new.told in
    let tree = resolved_of (map string_bytes c.as_slice.result.now) c.args.tree.now in
    let run : Mode → Running = λ m. record { until = here.until; budget = here.budget; report = c.args.request.now.report; way = way.Timelines m here.threshold } in
    let by = λ (m : Mode). Answers (λ due. IsModelRun (run m) tree (Ended due)) report call.result f f' h h' ⊎ AnswersMidway (λ below text. IsModelRun (run m) tree (Midway below text)) call.result f f' h h' in
    acted c.args.request.now (commands.Run here.until here.budget here.align here.threshold here.workers) c.as_slice.result.now here.is c.as_slice.ensures.value call.result c.args.tree.now report f f' h h'
    (subst by c.mode_of.ensures call.ensures.due)

pub returns-in-Run-clause-cause : goal.returns-in-Run-clause-cause
returns-in-Run-clause-cause g c =
    let here = c.in-Run in
    caused c.args.request.now (commands.Run here.until here.budget here.align here.threshold here.workers) c.as_slice.result.now here.is c.as_slice.ensures.value c.run_model_by_workers.result
    (worked_cause here.until here.budget here.align here.threshold here.workers (length (take here.workers c.args.lanes.now)) (map string_bytes c.as_slice.result.now) c.run_model_by_workers.result
    (few_taken here.workers c.args.lanes.now) c.run_model_by_workers.ensures.cause)

pub returns-in-Run-clause-stopped : goal.returns-in-Run-clause-stopped
returns-in-Run-clause-stopped g c =
    stopped_of_all g.G.Gate.stops c.args.lanes.now c.run_model_by_workers.new.lanes c.in-Run.workers c.run_model_by_workers.result c.run_model_by_workers.ensures.stopped

pub returns-in-Run-clause-gates : goal.returns-in-Run-clause-gates
returns-in-Run-clause-gates g c =
    not_fallen_of_all g.G.Gate.stops c.args.lanes.now c.run_model_by_workers.new.lanes c.in-Run.workers c.run_model_by_workers.ensures.lanes c.run_model_by_workers.ensures.gates
