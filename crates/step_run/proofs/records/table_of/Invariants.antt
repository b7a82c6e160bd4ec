-- The table has the histories so far.
use Rattle.std.proofs.Common.{◌≡◌, map, take}
use Rattle.core_traces.specs.Kept.{history_in}
use Rattle.step_run.proofs.records.table_of.Given as goal

abbrev pub invariant-loop-timeline : goal.invariant-loop-timeline
invariant-loop-timeline g l = l.histories.items ≡ map history_in (take l.timeline-index l.timelines)
