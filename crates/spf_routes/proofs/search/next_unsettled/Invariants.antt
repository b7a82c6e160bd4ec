use Rattle.std.proofs.Common.{◌≡◌, ℕ, ◌<◌, length, All, None}
use Rattle.std.specs.BinaryHeap.{heap_items, heap_len, IsHeap}
use Rattle.spf_routes.specs.declared.search.Label.{Label}
use Rattle.spf_routes.specs.Paths.{order, IsQueued, best_at}
use Rattle.spf_routes.proofs.search.next_unsettled.Given as goal

abbrev pub invariant-loop-label : goal.invariant-loop-label
invariant-loop-label l = record {
  nodes : All (λ entry. entry.0.1 < length l.best) (heap_items l.queue);
  heap : IsHeap order (heap_items l.queue);
  none_new : (label : Label) (n : ℕ) → IsQueued (heap_items l.queue) label n → IsQueued (heap_items l.initial.queue) label n;
  none_lost : (label : Label) (n : ℕ) → IsQueued (heap_items l.initial.queue) label n → best_at l.best n ≡ None → IsQueued (heap_items l.queue) label n;
}

abbrev pub decreases-loop-label : goal.decreases-loop-label
decreases-loop-label l = heap_len l.queue
