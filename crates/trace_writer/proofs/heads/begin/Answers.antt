use Rattle.std.proofs.Common.{◌+◌, refl, subst, sym, arith}
use Rattle.std.specs.BinaryHeap.{heap_items}
use Rattle.trace_writer.specs.Heads.{AreHeads}
use Rattle.trace_writer.proofs.Nexts.{heads_none, heads_more, others_first}
use Rattle.trace_writer.proofs.heads.begin.Goals as goal

pub loop-history-init : goal.loop-history-init
loop-history-init g c = record {
  heap = c.requires.heap;
  heads = subst (λ hs. AreHeads (g.H.Histories.lists c.args.histories.now) c.args.below (λ _. 0) 0 hs) (sym c.requires.empty) (heads_none (g.H.Histories.lists c.args.histories.now) c.args.below (λ _. 0));
  len = omega arith;
  capacity = omega arith;
}

pub loop-history-preserved : goal.loop-history-preserved
loop-history-preserved g c =
    let lists = g.H.Histories.lists c.args.histories.now in
    let i = c.loop-history.history in
    let len = c.loop-history.invariant.len in
    let capacity = c.loop-history.invariant.capacity in
    let len_new = c.add_head.ensures.len in
    let capacity_new = c.add_head.ensures.capacity in
    record {
      heap = c.add_head.ensures.heap;
      heads = heads_more lists c.args.below (λ _. 0) (i + 1) i 0 (heap_items c.loop-history.heap) (heap_items c.add_head.new.heap) refl (omega arith)
          (others_first lists c.args.below (λ _. 0) i (heap_items c.loop-history.heap) c.loop-history.invariant.heads) c.add_head.ensures.items;
      len = omega arith;
      capacity = omega arith;
    }
