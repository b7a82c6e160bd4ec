use Rattle.std.specs.BinaryHeap.{heap_items, IsHeap}
use Rattle.spf_routes.specs.Paths.{order}
use Rattle.spf_routes.proofs.Searching.{IsSearch}
use Rattle.spf_routes.proofs.search.settle.Given as goal

abbrev pub invariant-loop-settled : goal.invariant-loop-settled
invariant-loop-settled l = record {
  heap : IsHeap order (heap_items l.queue);
  search : IsSearch l.starts l.edges l.best.items (heap_items l.queue) l._settled;
}
