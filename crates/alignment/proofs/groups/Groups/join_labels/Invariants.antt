use Rattle.std.proofs.Common.{nat_eq, length}
use Rattle.std.specs.HashMap.{get}
use Rattle.alignment.specs.Alignment.{label_of}
use Rattle.alignment.proofs.Tying.{AreSomeTied}
use Rattle.alignment.proofs.groups.Groups.join_labels.Given as goal

abbrev pub invariant-loop-entity : goal.invariant-loop-entity
invariant-loop-entity l = AreSomeTied l.initial.self l.self (label_of l.mode l.nets (length l.nets)) l.entity (get nat_eq l.firsts)
