-- The histories so far were added.
use Rattle.std.proofs.Common.{◌≡◌, take, map}
use Rattle.std.specs.List.{fold}
use Rattle.trace_writer.specs.Merging.{entries_before}
use Rattle.trace_writer.specs.Report.{events_of}
use Rattle.trace_writer.specs.Tallying.{with_entry}
use Rattle.core_traces.specs.Kept.{history_in}
use Rattle.step_run.proofs.records.add_before.Given as goal

abbrev pub invariant-loop-timeline : goal.invariant-loop-timeline
invariant-loop-timeline g l = l.tally ≡ fold with_entry l.initial.tally (entries_before l.below (events_of (take l.timeline-index (map history_in l.timelines))))
