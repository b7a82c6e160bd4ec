use Rattle.std.proofs.Common.{ℕ, ◌<◌, ◌↔◌, drop}
use Rattle.host_rules.specs.Limits.{EachPair}
use Rattle.host_roles.proofs.Placing.{RiseFrom}
use Rattle.host_roles.proofs.placed.are_rising.Given as goal

abbrev pub invariant-loop-index : goal.invariant-loop-index
invariant-loop-index l = EachPair (λ (a b : ℕ). a < b) l.numbers ↔ RiseFrom l.least (drop l.index l.numbers)
