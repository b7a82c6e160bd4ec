use Rattle.std.proofs.Common.{◌∙◌, sym, ap, arith}
use Rattle.std.specs.Prelude.{is_none}
use Rattle.sync_core.proofs.Reported.{waits_here, reported_more}
use Rattle.sync_core.proofs.finding.all_reported.Goals as goal

pub returns-then-not-has_reported : goal.returns-then-not-has_reported
returns-then-not-has_reported c =
    let at = c.has_reported.ensures.0 c.if-not-has_reported.true in
    sym (ap is_none (c.loop-timeline.invariant ∙ waits_here c.args.barrier.now.reports c.loop-timeline.timeline at))

pub loop-timeline-preserved : goal.loop-timeline-preserved
loop-timeline-preserved c =
    c.loop-timeline.invariant
    ∙ reported_more c.args.barrier.now.reports c.loop-timeline.timeline (omega (arith, c.loop-timeline-test.true, c.requires))
    (λ at. let no_report = c.has_reported.ensures.1 at in let report = c.if-not-has_reported.false in cc)
