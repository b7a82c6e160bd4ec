use Rattle.std.proofs.Common.{◌≡◌, ◌++◌, replicate}
use Rattle.ring_model.specs.Reacting.{token}
use Rattle.ring_model.proofs.ring.write_tokens.Given as goal

abbrev pub invariant-loop : goal.invariant-loop
invariant-loop l = (l.out.writes ≡ l.fn.out.writes ++ replicate l.counter (token l.node)) × (l.out.lines ≡ l.fn.out.lines)
