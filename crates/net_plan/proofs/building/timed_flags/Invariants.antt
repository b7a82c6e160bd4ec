use Rattle.std.proofs.Common.{◌≡◌, ◌++◌, ◌∷◌, replicate, true, false}
use Rattle.net_plan.proofs.building.timed_flags.Given as goal

abbrev pub invariant-loop-client : goal.invariant-loop-client
invariant-loop-client l = l.timed.items ≡ replicate l.ports false ++ true ∷ replicate l._client true
