use Rattle.std.proofs.Common.{take}
use Rattle.std.specs.BinaryHeap.{heap_items, IsHeap}
use Rattle.spf_routes.specs.Paths.{order, HoldsStarts}
use Rattle.spf_routes.proofs.search.first_queue.Given as goal

abbrev pub invariant-loop-start : goal.invariant-loop-start
invariant-loop-start l = record {
  heap : IsHeap order (heap_items l.queue);
  starts : HoldsStarts (take l.start-index l.starts) (heap_items l.queue);
}
