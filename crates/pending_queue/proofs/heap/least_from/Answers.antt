use Rattle.std.proofs.Common.{inl, inr, arith}
use Rattle.pending_queue.proofs.HeapLemmas.{in_order_same, least_more}
use Rattle.pending_queue.proofs.heap.least_from.Goals as goal

pub loop-child-init : goal.loop-child-init
loop-child-init g c = (omega arith, c.requires, λ i a b. in_order_same g.T.Keyed.key_of c.args.items.now c.args.first i (omega arith))

pub loop-child-preserved : goal.loop-child-preserved
loop-child-preserved g c =
    let old = c.loop-child.invariant in
    let found = c.lesser-least.ensures in (
      elim found.one [ inl e ↦ omega (arith, e, old.0) | inr e ↦ omega (arith, e) ],
      elim found.one [ inl e ↦ omega (arith, e, old.1) | inr e ↦ omega (arith, e) ],
      least_more g.T.Keyed.key_of c.args.items.now c.args.first c.loop-child.child c.loop-child.least c.lesser-least.result found.first found.second old.2,
    )
