use Rattle.std.proofs.Common.{◌≡◌, drop}
use Rattle.sync_steps.specs.Between.{has_taken_on}
use Rattle.sync_steps.proofs.between.has_taken_from.Given as goal

abbrev pub invariant-loop-cross : goal.invariant-loop-cross
invariant-loop-cross g l = has_taken_on l.timeline.in_ends l.counts l.fn.ins ≡ has_taken_on l.timeline.in_ends l.counts (drop l.cross-index l.fn.ins)
