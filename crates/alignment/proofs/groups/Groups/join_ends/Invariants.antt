use Rattle.std.proofs.Common.{take}
use Rattle.alignment.specs.Forests.{AreEndsTied}
use Rattle.alignment.proofs.groups.Groups.join_ends.Given as goal

abbrev pub invariant-loop-mapping : goal.invariant-loop-mapping
invariant-loop-mapping l = AreEndsTied l.initial.self l.self (take l.mapping-index l.mappings)
