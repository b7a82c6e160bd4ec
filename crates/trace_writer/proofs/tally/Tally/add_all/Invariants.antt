-- The events so far were added.
use Rattle.std.proofs.Common.{◌≡◌, take}
use Rattle.std.specs.List.{fold}
use Rattle.trace_writer.specs.Tallying.{with_entry}
use Rattle.trace_writer.proofs.tally.Tally.add_all.Given as goal

abbrev pub invariant-loop-entry : goal.invariant-loop-entry
invariant-loop-entry l = l.self ≡ fold with_entry l.initial.self (take l.entry-index l.entries)
