use Rattle.std.proofs.Common.{◌≡◌, ◌<◌, ◌+◌, ◌^◌, get_or, arith}
use Rattle.std.proofs.lemmas.List.{get_or_read}
use Rattle.ring_model.proofs.Counting.{counts_next, count_fits}
use Rattle.ring_model.proofs.ring.count_tokens.Goals as goal

pub overflow_add-index_mut : goal.overflow_add-index_mut
overflow_add-index_mut c =
    let i = c.loop-token.token-index in
    let t : get_or c.args.tokens.now i 0 < c.args.nodes = c.requires.named i 0 c.loop-token-test.true in
    let v : c.index_mut.result.now ≡ get_or c.loop-token.counts.items (get_or c.args.tokens.now i 0) 0 = get_or_read c.loop-token.counts.items (get_or c.args.tokens.now i 0) c.index_mut.result.now (omega (arith, t, c.loop-token.invariant.0)) c.index_mut.ensures.value 0 in
    let k : c.index_mut.result.now + 1 < 2 ^ 32 = count_fits c.args.nodes i c.index_mut.result.now c.args.tokens.now c.loop-token.counts.items c.loop-token-test.true c.requires.few t c.loop-token.invariant.1 v in
    omega (arith, k)

pub loop-token-preserved : goal.loop-token-preserved
loop-token-preserved c =
    let i = c.loop-token.token-index in
    let t : get_or c.args.tokens.now i 0 < c.args.nodes = c.requires.named i 0 c.loop-token-test.true in
    let v : c.index_mut.result.now ≡ get_or c.loop-token.counts.items (get_or c.args.tokens.now i 0) 0 = get_or_read c.loop-token.counts.items (get_or c.args.tokens.now i 0) c.index_mut.result.now (omega (arith, t, c.loop-token.invariant.0)) c.index_mut.ensures.value 0 in
    counts_next c.args.nodes i c.index_mut.result.now c.args.tokens.now c.loop-token.counts.items c.loop-token-test.true t c.loop-token.invariant.0 c.loop-token.invariant.1 v
