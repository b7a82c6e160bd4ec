use Rattle.std.proofs.Common.{map}
use Rattle.core_traces.specs.Kept.{history_in}
use Rattle.step_run.proofs.Tallied.{history_counts, history_at}
use Rattle.step_run.proofs.records.add_before.Goals as goal

pub loop-timeline-preserved : goal.loop-timeline-preserved
loop-timeline-preserved g c =
    history_counts c.args.tally.now c.loop-timeline.tally _ c.args.below (map history_in c.args.timelines.now) c.loop-timeline.timeline-index c.history.result.now
    (history_at c.args.timelines.now c.loop-timeline.timeline-index c.timeline-item.result c.history.result.now c.loop-timeline-test.true c.timeline-item.is c.history.ensures)
    c.loop-timeline.invariant c.add_history.ensures
