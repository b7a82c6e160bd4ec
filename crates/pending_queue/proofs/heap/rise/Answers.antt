use Rattle.std.proofs.Common.{rules, ◌≡◌, ◌<◌, true, length, sym, ap, ◌∙◌, arith}
use Rattle.std.proofs.lemmas.List.Sorted.{IsPermutation-trans}
use Rattle.pending_queue.specs.Heap.{above}
use Rattle.pending_queue.proofs.HeapLemmas.{key_read, read_test, rise_steps}
use Rattle.pending_queue.proofs.heap.rise.Goals as goal

pub loop-at-preserved : goal.loop-at-preserved
loop-at-preserved g c =
    let before = c.loop-at.items in
    let after = c.swap.new.self in
    let at = c.loop-at.at in
    let inside : at < length before = c.loop-at.invariant.0 in
    let up : 0 < at = omega arith in
    let low : above at < length before = omega arith in
    let yes : c.comes_first.result ≡ true = search rules in
    let less = read_test g.T.Keyed.key_of before at (above at) c.key.result c.key-in-loop-at.result c.comes_first.result
    (key_read g.T.Keyed.key_of before at c.index-items-at.result c.key.result inside c.index-items-at.is (c.key.ensures ∙ ap g.T.Keyed.key_of (sym c.index-items-at.is)))
    (key_read g.T.Keyed.key_of before (above at) c.index-items-over.result c.key-in-loop-at.result low c.index-items-over.is (c.key-in-loop-at.ensures ∙ ap g.T.Keyed.key_of (sym c.index-items-over.is))) c.comes_first.ensures in (
      omega (arith, low, c.swap.ensures.len),
      rise_steps g.T.Keyed.key_of before after at up inside c.swap.ensures.len c.swap.ensures.by_index (λ d. less d ∙ yes) c.loop-at.invariant.1,
      IsPermutation-trans c.args.items.now before after c.loop-at.invariant.2 c.swap.ensures.permutation,
    )
