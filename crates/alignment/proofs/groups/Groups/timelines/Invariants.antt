use Rattle.std.proofs.Common.{◌≡◌, length}
use Rattle.alignment.proofs.Numbering.{IsCounted}
use Rattle.alignment.proofs.groups.Groups.timelines.Given as goal

abbrev pub invariant-loop-entity : goal.invariant-loop-entity
invariant-loop-entity l = record { counted : IsCounted l.self l.lines.items l.count; length : length l.lines.items ≡ l.entity }
