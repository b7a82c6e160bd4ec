use Rattle.std.proofs.Common.{◌-◌, ◌≤◌, length}
use Rattle.std.specs.Vec.{vec_capacity}
use Rattle.std.specs.BinaryHeap.{heap_items, heap_len, heap_capacity, IsHeap}
use Rattle.trace_writer.specs.Heads.{head_order}
use Rattle.trace_writer.specs.Merging.{merged}
use Rattle.trace_writer.proofs.Writing.{IsWritten}
use Rattle.trace_writer.proofs.merging.send_rest.Given as goal

abbrev pub invariant-loop-entry : goal.invariant-loop-entry
invariant-loop-entry g l = record {
  written : IsWritten l.names (g.H.Histories.lists l.histories) l.below (heap_items l.heads) l.gathered.items (g.K.Sink.held l.initial.sink) (g.K.Sink.held l.sink) l.count;
  heap : IsHeap head_order (heap_items l.heads);
  room : heap_len l.heads ≤ heap_capacity l.heads;
  faults : g.K.Sink.faults l.initial.sink ≤ g.K.Sink.faults l.sink;
  capacity : vec_capacity l.initial.gathered ≤ vec_capacity l.gathered;
  places : heap_capacity l.initial.heads ≤ heap_capacity l.heads;
}

abbrev pub decreases-loop-entry : goal.decreases-loop-entry
decreases-loop-entry g l = length (merged (g.H.Histories.lists l.histories) l.below) - l.count
