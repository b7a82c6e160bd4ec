use Rattle.std.proofs.Common.{take}
use Rattle.std.specs.BinaryHeap.{heap_items, IsHeap}
use Rattle.spf_routes.specs.Paths.{order, AreAdded}
use Rattle.spf_routes.proofs.search.add_edges.Given as goal

abbrev pub invariant-loop-edge : goal.invariant-loop-edge
invariant-loop-edge l = record {
  heap : IsHeap order (heap_items l.queue);
  added : AreAdded (heap_items l.initial.queue) l.label (take l.edge-index l.edges) (heap_items l.queue);
}
