-- The lines so far were added.
use Rattle.std.proofs.Common.{◌≡◌, take}
use Rattle.std.specs.List.{fold}
use Rattle.trace_writer.specs.Tallying.{with_line}
use Rattle.trace_writer.proofs.tally.Tally.add_lines.Given as goal

abbrev pub invariant-loop-line : goal.invariant-loop-line
invariant-loop-line l = l.self ≡ fold with_line l.initial.self (take l.line-index l.lines)
