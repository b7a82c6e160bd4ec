use Rattle.std.proofs.Common.{◌≡◌, map, take}
use Rattle.sync_steps.specs.Between.{count_on}
use Rattle.sync_steps.proofs.between.counts_of.Given as goal

abbrev pub invariant-loop-cross : goal.invariant-loop-cross
invariant-loop-cross g l = l.counts.items ≡ map (count_on l.timeline) (take l.cross-index l.outs)
