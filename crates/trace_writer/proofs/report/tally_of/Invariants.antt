-- The events of the histories so far were added.
use Rattle.std.proofs.Common.{◌≡◌, [], take}
use Rattle.std.specs.List.{fold}
use Rattle.trace_writer.specs.Report.{events_of, totals_of}
use Rattle.trace_writer.specs.Tallying.{with_entry}
use Rattle.trace_writer.proofs.report.tally_of.Given as goal

abbrev pub invariant-loop-i : goal.invariant-loop-i
invariant-loop-i g l = l.tally ≡ fold with_entry (totals_of []) (events_of (take l.i (g.H.Histories.lists l.histories)))
