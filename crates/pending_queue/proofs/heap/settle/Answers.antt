use Rattle.std.proofs.lemmas.List.Sorted.{IsPermutation-trans}
use Rattle.pending_queue.proofs.heap.settle.Goals as goal

pub returns-clause-same : goal.returns-clause-same
returns-clause-same g c = IsPermutation-trans c.args.items.now c.sink-at.new.items c.rise.new.items c.sink-at.ensures.same c.rise.ensures.same
