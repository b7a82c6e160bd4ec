use Rattle.std.proofs.Common.{◌≡◌, ◌+◌, inl, inr, refl, length, Ok, Err}
use Rattle.trace_writer.specs.Trace.{entries_text, trace_text}
use Rattle.list_run.specs.declared.running.ListEnd.TheVariants as end
use Rattle.list_run.specs.declared.running.ListFault.TheVariants as fault
use Rattle.ssfnet_top.proofs.Reports.{is_report}
use Rattle.ssfnet_top.proofs.ListOutcome.{made_of, all_due, budget_due, part_due, part_where}
use Rattle.ssfnet_top.proofs.seq.run_by_list.Goals as goal

pub returns-in-Ok-Finished-clause-due : goal.returns-in-Ok-Finished-clause-due
returns-in-Ok-Finished-clause-due g c =
    let plan = c.args.built.plan in
    let ended : c.run_list.result ≡ Ok end.Finished = cc in
    let t = c.run_list.ensures.trace ended in
    inl (
      trace_text c.args.built.names t.entries c.args.until (plan.before + length t.entries),
      all_due (g.B.Behaviour.reaction plan.behaviour) plan c.args.built.names c.args.until c.args.budget c.args.wanted c.add_report.new.report.items t.entries t.all
          (made_of c.args.wanted c.args.report.now.items c.make_room.new.report.items c.add_report.new.report.items c.new-tally.result c.run_list.new.tally t.entries
          c.requires.empty c.make_room.ensures.same c.add_report.ensures c.new-tally.ensures t.tallied),
      t.text,
    )

pub returns-in-Ok-Finished-clause-told : goal.returns-in-Ok-Finished-clause-told
returns-in-Ok-Finished-clause-told g c =
    let ended : c.run_list.result ≡ Ok end.Finished = cc in
    let t = c.run_list.ensures.trace ended in
    is_report c.args.wanted c.add_report.new.report.items t.entries
    (made_of c.args.wanted c.args.report.now.items c.make_room.new.report.items c.add_report.new.report.items c.new-tally.result c.run_list.new.tally t.entries
    c.requires.empty c.make_room.ensures.same c.add_report.ensures c.new-tally.ensures t.tallied)

pub returns-in-Ok-OverBudget-clause-due : goal.returns-in-Ok-OverBudget-clause-due
returns-in-Ok-OverBudget-clause-due g c =
    let plan = c.args.built.plan in
    let ended : c.run_list.result ≡ Ok end.OverBudget = cc in
    let t = c.run_list.ensures.over ended in
    inl (entries_text c.args.built.names t.entries, budget_due (g.B.Behaviour.reaction plan.behaviour) plan c.args.built.names c.args.until c.args.budget c.args.wanted t.entries t.are, t.text)

pub returns-in-Err-Write-clause-due : goal.returns-in-Err-Write-clause-due
returns-in-Err-Write-clause-due g c =
    let plan = c.args.built.plan in
    let failed : c.run_list.result ≡ Err fault.Write = cc in
    let d = part_due (g.B.Behaviour.reaction plan.behaviour) plan c.args.built.names c.args.until c.args.budget c.args.wanted (g.K.Sink.held c.args.out.now) (g.K.Sink.held c.run_list.new.out)
    (part_where c.run_list.result fault.Write failed c.run_list.ensures.part) in
    inr (inl (d.0, d.1, inr (refl, c.run_list.ensures.cause failed), d.2))

pub returns-clause-due : goal.returns-clause-due
returns-clause-due g c =
    let plan = c.args.built.plan in
    let failed : c.run_list.result ≡ Err fault.Memory = cc in
    let d = part_due (g.B.Behaviour.reaction plan.behaviour) plan c.args.built.names c.args.until c.args.budget c.args.wanted (g.K.Sink.held c.args.out.now) (g.K.Sink.held c.run_list.new.out)
    (part_where c.run_list.result fault.Memory failed c.run_list.ensures.part) in
    inr (inl (d.0, d.1, inl refl, d.2))
