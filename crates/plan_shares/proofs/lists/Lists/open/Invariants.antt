use Rattle.std.proofs.Common.{◌≡◌, []}
use Rattle.plan_shares.specs.Lists.{for_each}
use Rattle.plan_shares.proofs.lists.Lists.open.Given as goal

abbrev pub invariant-loop-line : goal.invariant-loop-line
invariant-loop-line g l = l.self-inside.lists.items ≡ for_each l._line (λ _. [])
