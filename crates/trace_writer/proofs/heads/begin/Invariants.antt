use Rattle.std.proofs.Common.{◌≤◌}
use Rattle.std.specs.BinaryHeap.{heap_items, heap_len, heap_capacity, IsHeap}
use Rattle.trace_writer.specs.Heads.{AreHeads, head_order}
use Rattle.trace_writer.proofs.heads.begin.Given as goal

abbrev pub invariant-loop-history : goal.invariant-loop-history
invariant-loop-history g l = record {
  heap : IsHeap head_order (heap_items l.heap);
  heads : AreHeads (g.H.Histories.lists l.histories) l.below (λ _. 0) l.history (heap_items l.heap);
  len : heap_len l.heap ≤ l.history;
  capacity : heap_capacity l.initial.heap ≤ heap_capacity l.heap;
}
