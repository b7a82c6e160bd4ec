use Rattle.std.proofs.Common.{◌++◌, ◌∙◌, ap, sym, subst, List, ℕ, Option}
use Rattle.ssfnet_top.specs.Outcome.{windows_line}
use Rattle.ssfnet_top.specs.Answering.{IsReportTold, windows_text}
use Rattle.ssfnet_top.proofs.Pieced.{reported_by, some_told}
use Rattle.ssfnet_top.proofs.top.tell_report.Goals as goal

pub returns-in-Some : goal.returns-in-Some
returns-in-Some g c =
    let report = c.as_slice-in-Some.result.now in
    let line = windows_line c.in-Some.crossed c.in-Some.last in
    let same = ap (λ (t : List ℕ). t ++ line) c.as_slice-in-Some.ensures.value ∙ ap (λ (w : Option (ℕ × ℕ)). c.args.told.now.report.items ++ windows_text w) (sym c.in-Some.is) in
    subst (λ (t : List ℕ). IsReportTold t c.status_by.result (g.J.Sink.faults c.args.err.now) (g.J.Sink.faults c.tell_both.new.err) (g.J.Sink.held c.args.err.now) (g.J.Sink.held c.tell_both.new.err)) same
    (reported_by (report ++ line) c.tell_both.result c.status_by.result _ _ _ _ (some_told report c.in-Some.crossed c.in-Some.last) c.status_by.ensures.well c.status_by.ensures.failed
    c.tell_both.ensures.all c.tell_both.ensures.part c.tell_both.ensures.cause)
