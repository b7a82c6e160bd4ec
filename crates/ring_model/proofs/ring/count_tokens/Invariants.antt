use Rattle.std.proofs.Common.{◌≡◌, ◌<◌, ℕ, length, take, get_or, replicate}
use Rattle.ring_model.specs.Rings.{tokens_of}
use Rattle.ring_model.proofs.ring.count_tokens.Given as goal

abbrev pub invariant-loop : goal.invariant-loop
invariant-loop l = l.counts.items ≡ replicate l.counter 0

abbrev pub invariant-loop-token : goal.invariant-loop-token
invariant-loop-token l = (length l.counts.items ≡ l.nodes) × ((n : ℕ) → n < l.nodes → get_or l.counts.items n 0 ≡ tokens_of (take l.token-index l.tokens) n)
