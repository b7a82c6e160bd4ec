use Rattle.std.proofs.Common.{◌<◌, length}
use Rattle.std.specs.List.Sorted.{IsPermutation}
use Rattle.pending_queue.specs.Heap.{CanRise}
use Rattle.pending_queue.proofs.heap.rise.Given as goal

abbrev pub invariant-loop-at : goal.invariant-loop-at
invariant-loop-at g l = (l.at < length l.items) × CanRise g.T.Keyed.key_of l.items l.at × IsPermutation l.initial.items l.items

abbrev pub decreases-loop-at : goal.decreases-loop-at
decreases-loop-at g l = l.at
