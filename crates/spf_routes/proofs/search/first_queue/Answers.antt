use Rattle.std.specs.BinaryHeap.{heap_items}
use Rattle.spf_routes.proofs.Queues.{starts_more}
use Rattle.spf_routes.proofs.search.first_queue.Goals as goal

pub loop-start-preserved : goal.loop-start-preserved
loop-start-preserved c = record {
  heap = c.in_ok-push.ensures.heap_order c.loop-start.invariant.heap;
  starts = starts_more c.args.starts.now (heap_items c.loop-start.queue) (heap_items c.push.new.self) c.loop-start.start-index c.loop-start-test.true c.loop-start.invariant.starts c.in_ok-push.ensures.permutation;
}
