use Rattle.std.proofs.Common.{◌≡◌, ℕ, get_or}
use Rattle.std.specs.BinaryHeap.{heap_items}
use Rattle.spf_routes.proofs.Queues.{no_edge, added_more}
use Rattle.spf_routes.proofs.search.add_edges.Goals as goal

pub loop-edge-preserved : goal.loop-edge-preserved
loop-edge-preserved c =
    let i : ℕ = c.loop-edge.edge-index in
    let weight : c.from.result ≡ (get_or c.args.edges.now i no_edge).weight = c.from.ensures in
    record {
      heap = c.in_ok-push.ensures.heap_order c.loop-edge.invariant.heap;
      added = added_more (heap_items c.args.queue.now) (heap_items c.loop-edge.queue) (heap_items c.push.new.self) c.args.label c.args.edges.now i c.loop-edge-test.true c.loop-edge.invariant.added
          (rw weight at c.in_ok-push.ensures.permutation);
    }
