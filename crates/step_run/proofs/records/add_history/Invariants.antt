-- The entries so far were added, where they are below the bound.
use Rattle.std.proofs.Common.{◌≡◌, take}
use Rattle.std.specs.List.{fold}
use Rattle.trace_writer.specs.Merging.{entries_before}
use Rattle.trace_writer.specs.Tallying.{with_entry}
use Rattle.step_run.proofs.records.add_history.Given as goal

abbrev pub invariant-loop-entry : goal.invariant-loop-entry
invariant-loop-entry l = l.tally ≡ fold with_entry l.initial.tally (entries_before l.below (take l.entry-index l.entries))
