use Rattle.pending_queue.proofs.HeapLemmas.{least_of_pairs}
use Rattle.pending_queue.proofs.heap.least_of_four.Goals as goal

pub returns-clause-least : goal.returns-clause-least
returns-clause-least g c = least_of_pairs g.T.Keyed.key_of c.args.items.now c.args.first c.lesser-left.result c.lesser-right.result c.lesser.result
    c.lesser-left.ensures.first c.lesser-left.ensures.second c.lesser-right.ensures.first c.lesser-right.ensures.second c.lesser.ensures.first c.lesser.ensures.second
