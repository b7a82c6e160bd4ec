use Rattle.std.proofs.Common.{arith}
use Rattle.std.proofs.lemmas.List.Sorted.{IsPermutation-trans}
use Rattle.pending_queue.proofs.HeapLemmas.{sink_ends, sink_steps}
use Rattle.pending_queue.proofs.heap.sink.Goals as goal

pub loop-at-preserved : goal.loop-at-preserved
loop-at-preserved g c =
    let before = c.loop-at.items in
    let after = c.swap.new.self in
    let child = c.least_of_four-child.result in
    let place = c.least_of_four-child.ensures.place in (
      omega (arith, place.1, c.swap.ensures.len),
      sink_steps g.T.Keyed.key_of before after c.loop-at.at child (omega (arith, place.0)) (omega (arith, place.2)) place.1 c.swap.ensures.len c.swap.ensures.by_index
          (λ i a b l. c.least_of_four-child.ensures.least i (omega arith) (omega arith)) c.loop-at.invariant.1,
      IsPermutation-trans c.args.items.now before after c.loop-at.invariant.2 c.swap.ensures.permutation,
    )

pub returns-then-at-last-2-clause-same : goal.returns-then-at-last-2-clause-same
returns-then-at-last-2-clause-same g c = IsPermutation-trans c.args.items.now c.loop-at.items c.swap-then-at-last-2.new.self c.loop-at.invariant.2 c.swap-then-at-last-2.ensures.permutation

pub returns-then-at-last-2-clause-can : goal.returns-then-at-last-2-clause-can
returns-then-at-last-2-clause-can g c =
    let before = c.loop-at.items in
    let after = c.swap-then-at-last-2.new.self in
    let child = c.least_from-child.result in
    let place = c.least_from-child.ensures.place in
    let len = c.swap-then-at-last-2.ensures.len in
    sink_ends g.T.Keyed.key_of after child (omega (arith, len, place.0))
    (sink_steps g.T.Keyed.key_of before after c.loop-at.at child (omega (arith, place.0)) (omega (arith, place.1)) place.1 len c.swap-then-at-last-2.ensures.by_index
    (λ i a b l. c.least_from-child.ensures.least i (omega arith) l) c.loop-at.invariant.1)
