use Rattle.std.proofs.Common.{rules, true, false, subst, map, string_bytes, IfErr, ◌⊎◌}
use Rattle.alignment.specs.declared.labels.Mode.{Mode}
use Rattle.command_words.specs.declared.command.Command.TheVariants as commands
use Rattle.ssfnet_top.specs.declared.running.Running.{Running}
use Rattle.ssfnet_top.specs.declared.running.Way.TheVariants as way
use Rattle.ssfnet_top.specs.Outcome.{resolved_of, IsModelRun}
use Rattle.ssfnet_top.specs.Outcome.Course.{Ended, Midway}
use Rattle.ssfnet_top.specs.Answering.{Answers, AnswersMidway, IsOfModel, IsOfRun, told_text}
use Rattle.ssfnet_top.proofs.Acting.{unbegun_without, unbegun_stepped, acted, acted_quietly, caused, untold_text, listed, listed_cause, stepped_cause}
use Rattle.ssfnet_top.proofs.top.act.Goals as goal

pub returns-in-Dml-true-clause-due : goal.returns-in-Dml-true-clause-due
returns-in-Dml-true-clause-due g c =
    acted_quietly c.args.request.now (commands.Dml true) c.as_slice-names.result.now (search rules) c.as_slice-names.ensures.value c.print_resolved.result c.args.tree.now (told_text c.args.told.now)
    (g.K.Sink.faults c.args.out.now) (g.K.Sink.faults c.print_resolved.new.out) (g.K.Sink.held c.args.out.now) (g.K.Sink.held c.print_resolved.new.out) (untold_text c.args.told.now c.requires.untold) c.print_resolved.ensures.due

pub returns-in-Dml-true-clause-cause : goal.returns-in-Dml-true-clause-cause
returns-in-Dml-true-clause-cause g c =
    caused c.args.request.now (commands.Dml true) c.as_slice-names.result.now (search rules) c.as_slice-names.ensures.value c.print_resolved.result c.print_resolved.ensures.cause

pub returns-in-Check-clause-due : goal.returns-in-Check-clause-due
returns-in-Check-clause-due g c =
    acted_quietly c.args.request.now commands.Check c.as_slice-names.result.now c.in-Check.is c.as_slice-names.ensures.value c.print_counts.result c.args.tree.now (told_text c.args.told.now)
    (g.K.Sink.faults c.args.out.now) (g.K.Sink.faults c.print_counts.new.out) (g.K.Sink.held c.args.out.now) (g.K.Sink.held c.print_counts.new.out) (untold_text c.args.told.now c.requires.untold) c.print_counts.ensures.due

pub returns-in-Check-clause-cause : goal.returns-in-Check-clause-cause
returns-in-Check-clause-cause g c =
    caused c.args.request.now commands.Check c.as_slice-names.result.now c.in-Check.is c.as_slice-names.ensures.value c.print_counts.result c.print_counts.ensures.cause

pub returns-in-Plan-clause-due : goal.returns-in-Plan-clause-due
returns-in-Plan-clause-due g c =
    acted_quietly c.args.request.now commands.Plan c.as_slice-names.result.now c.in-Plan.is c.as_slice-names.ensures.value c.print_plan.result c.args.tree.now (told_text c.args.told.now)
    (g.K.Sink.faults c.args.out.now) (g.K.Sink.faults c.print_plan.new.out) (g.K.Sink.held c.args.out.now) (g.K.Sink.held c.print_plan.new.out) (untold_text c.args.told.now c.requires.untold) c.print_plan.ensures.due

pub returns-in-Plan-clause-cause : goal.returns-in-Plan-clause-cause
returns-in-Plan-clause-cause g c =
    caused c.args.request.now commands.Plan c.as_slice-names.result.now c.in-Plan.is c.as_slice-names.ensures.value c.print_plan.result c.print_plan.ensures.cause

pub returns-in-Seq-clause-due : goal.returns-in-Seq-clause-due
returns-in-Seq-clause-due g c =
    let until = c.in-Seq.until in
    let budget = c.in-Seq.budget in
    let report = told_text c.run_model.new.told in
    acted c.args.request.now (commands.Seq until budget) c.as_slice-names.result.now c.in-Seq.is c.as_slice-names.ensures.value c.run_model.result c.args.tree.now report
    (g.K.Sink.faults c.args.out.now) (g.K.Sink.faults c.run_model.new.out) (g.K.Sink.held c.args.out.now) (g.K.Sink.held c.run_model.new.out)
    (listed until budget c.args.request.now.report (resolved_of (map string_bytes c.as_slice-names.result.now) c.args.tree.now) report c.run_model.result
    (g.K.Sink.faults c.args.out.now) (g.K.Sink.faults c.run_model.new.out) (g.K.Sink.held c.args.out.now) (g.K.Sink.held c.run_model.new.out) c.run_model.ensures.due)

pub returns-in-Seq-clause-cause : goal.returns-in-Seq-clause-cause
returns-in-Seq-clause-cause g c =
    let until = c.in-Seq.until in
    let budget = c.in-Seq.budget in
    caused c.args.request.now (commands.Seq until budget) c.as_slice-names.result.now c.in-Seq.is c.as_slice-names.ensures.value c.run_model.result
    (listed_cause until budget c.args.request.now.report (map string_bytes c.as_slice-names.result.now) c.run_model.result c.run_model.ensures.cause)

pub returns-in-Step-clause-due : goal.returns-in-Step-clause-due
returns-in-Step-clause-due g c =
    let until = c.in-Step.until in
    let budget = c.in-Step.budget in
    let threshold = c.in-Step.threshold in
    let report = told_text c.run_scheduled.new.told in
    let tree = resolved_of (map string_bytes c.as_slice-names.result.now) c.args.tree.now in
    let run : Mode → Running = λ m. record { until = until; budget = budget; report = c.args.request.now.report; way = way.Timelines m threshold } in
    let by = λ (m : Mode). Answers (λ due. IsModelRun (run m) tree (Ended due)) report c.run_scheduled.result (g.K.Sink.faults c.args.out.now) (g.K.Sink.faults c.run_scheduled.new.out) (g.K.Sink.held c.args.out.now) (g.K.Sink.held c.run_scheduled.new.out)
    ⊎ AnswersMidway (λ below text. IsModelRun (run m) tree (Midway below text)) c.run_scheduled.result (g.K.Sink.faults c.args.out.now) (g.K.Sink.faults c.run_scheduled.new.out) (g.K.Sink.held c.args.out.now) (g.K.Sink.held c.run_scheduled.new.out) in
    acted c.args.request.now (commands.Step until budget c.in-Step.align threshold) c.as_slice-names.result.now c.in-Step.is c.as_slice-names.ensures.value c.run_scheduled.result c.args.tree.now report
    (g.K.Sink.faults c.args.out.now) (g.K.Sink.faults c.run_scheduled.new.out) (g.K.Sink.held c.args.out.now) (g.K.Sink.held c.run_scheduled.new.out)
    (subst by c.mode_of.ensures c.run_scheduled.ensures.due)

pub returns-in-Step-clause-cause : goal.returns-in-Step-clause-cause
returns-in-Step-clause-cause g c =
    let until = c.in-Step.until in
    let budget = c.in-Step.budget in
    let threshold = c.in-Step.threshold in
    let names = map string_bytes c.as_slice-names.result.now in
    let run : Mode → Running = λ m. record { until = until; budget = budget; report = c.args.request.now.report; way = way.Timelines m threshold } in
    let by = λ (m : Mode). IfErr c.run_scheduled.result (λ r. IsOfModel names r ⊎ IsOfRun (run m) r) in
    caused c.args.request.now (commands.Step until budget c.in-Step.align threshold) c.as_slice-names.result.now c.in-Step.is c.as_slice-names.ensures.value c.run_scheduled.result
    (stepped_cause until budget c.args.request.now.report c.in-Step.align threshold names c.run_scheduled.result (subst by c.mode_of.ensures c.run_scheduled.ensures.cause))

pub returns-in-Gen-clause-due : goal.returns-in-Gen-clause-due
returns-in-Gen-clause-due g c =
    acted_quietly c.args.request.now (commands.Gen c.in-Gen.seed c.in-Gen.size) c.as_slice-names.result.now c.in-Gen.is c.as_slice-names.ensures.value c.print_campus.result c.args.tree.now (told_text c.args.told.now)
    (g.K.Sink.faults c.args.out.now) (g.K.Sink.faults c.print_campus.new.out) (g.K.Sink.held c.args.out.now) (g.K.Sink.held c.print_campus.new.out) (untold_text c.args.told.now c.requires.untold) c.print_campus.ensures.due

pub returns-in-Dml-false-clause-unbegun : goal.returns-in-Dml-false-clause-unbegun
returns-in-Dml-false-clause-unbegun g c =
    unbegun_without c.print_tree.result c.args.request.now.command (commands.Dml false) (g.K.Sink.held c.args.out.now) (g.K.Sink.held c.print_tree.new.out) (search rules) (λ middle. middle)

pub returns-in-Dml-true-clause-unbegun : goal.returns-in-Dml-true-clause-unbegun
returns-in-Dml-true-clause-unbegun g c =
    unbegun_without c.print_resolved.result c.args.request.now.command (commands.Dml true) (g.K.Sink.held c.args.out.now) (g.K.Sink.held c.print_resolved.new.out) (search rules) (λ middle. middle)

pub returns-in-Check-clause-unbegun : goal.returns-in-Check-clause-unbegun
returns-in-Check-clause-unbegun g c =
    unbegun_without c.print_counts.result c.args.request.now.command (commands.Check) (g.K.Sink.held c.args.out.now) (g.K.Sink.held c.print_counts.new.out) c.in-Check.is (λ middle. middle)

pub returns-in-Plan-clause-unbegun : goal.returns-in-Plan-clause-unbegun
returns-in-Plan-clause-unbegun g c =
    unbegun_without c.print_plan.result c.args.request.now.command (commands.Plan) (g.K.Sink.held c.args.out.now) (g.K.Sink.held c.print_plan.new.out) c.in-Plan.is (λ middle. middle)

pub returns-in-Seq-clause-unbegun : goal.returns-in-Seq-clause-unbegun
returns-in-Seq-clause-unbegun g c =
    unbegun_without c.run_model.result c.args.request.now.command (commands.Seq c.in-Seq.until c.in-Seq.budget) (g.K.Sink.held c.args.out.now) (g.K.Sink.held c.run_model.new.out) c.in-Seq.is (λ middle. middle)

pub returns-in-Gen-clause-unbegun : goal.returns-in-Gen-clause-unbegun
returns-in-Gen-clause-unbegun g c =
    unbegun_without c.print_campus.result c.args.request.now.command (commands.Gen c.in-Gen.seed c.in-Gen.size) (g.K.Sink.held c.args.out.now) (g.K.Sink.held c.print_campus.new.out) c.in-Gen.is (λ middle. middle)

pub returns-in-Step-clause-unbegun : goal.returns-in-Step-clause-unbegun
returns-in-Step-clause-unbegun g c =
    unbegun_stepped c.run_scheduled.result c.args.request.now.command (g.K.Sink.held c.args.out.now) (g.K.Sink.held c.run_scheduled.new.out) c.mode_of.result c.in-Step.threshold c.run_scheduled.ensures.unbegun
