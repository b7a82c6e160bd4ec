use Rattle.sync_core.specs.Choosing.{Covers}
use Rattle.sync_core.proofs.Firsts.{marked_count}
use Rattle.sync_core.proofs.core_parts.Core.first_of.Given as goal

abbrev pub invariant-loop-number : goal.invariant-loop-number
invariant-loop-number g l = Covers l.kind l.self l.marks

abbrev pub decreases-loop-number : goal.decreases-loop-number
decreases-loop-number g l = marked_count l.marks
