use Rattle.std.proofs.Common.{◌≡◌, ◌∙◌, sym, subst, true, rules}
use Rattle.std.specs.List.{All, Contains}
use Rattle.sync_steps.specs.Between.{can_report, counts_in}
use Rattle.sync_steps.proofs.Reporting.{report_kept, report_due, counted_cross}
use Rattle.sync_steps.proofs.between.report_to.Goals as goal

pub report-reported-requires : goal.report-reported-requires
report-reported-requires g c =
    let t = c.args.timeline.now in
    let b = c.args.barrier.now in
    let due : c.may_report.result ≡ true = search rules in
    let may : can_report t c.args.number b ≡ true = sym c.may_report.ensures ∙ due in
    let q = report_due t c.args.number b may in
    let counts : c.as_slice.result.now ≡ counts_in t = c.as_slice.ensures.value ∙ c.in_ok-counts.ensures in
    record {
      running = q.0;
      first = q.1;
      cross = subst (λ ns. All (λ p. Contains b.channels p.0) ns) (sym counts) (counted_cross t t.outs b.channels c.requires.cross);
    }

pub returns-clause-did : goal.returns-clause-did
returns-clause-did g c = λ did.
    let kept = c.report-reported.ensures.after ∙ report_kept _ _ _ _ _ c.round-round.ensures in
    let counts : c.as_slice.result.now ≡ counts_in c.args.timeline.now = c.as_slice.ensures.value ∙ c.in_ok-counts.ensures in
    let least = c.least_ahead.ensures in cc
