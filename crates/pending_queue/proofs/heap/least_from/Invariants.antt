use Rattle.std.proofs.Common.{ℕ, ◌<◌, ◌≤◌, length}
use Rattle.pending_queue.specs.Heap.{AreInOrder}
use Rattle.pending_queue.proofs.heap.least_from.Given as goal

abbrev pub invariant-loop-child : goal.invariant-loop-child
invariant-loop-child g l = (l.first ≤ l.least) × (l.least < length l.items) × ((c : ℕ) → l.first ≤ c → c < l.child → AreInOrder g.T.Keyed.key_of l.items l.least c)
