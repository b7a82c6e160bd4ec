use Rattle.std.proofs.Common.{◌≤◌, ◌↔◌, drop}
use Rattle.ssf_model.specs.Reaction.{Each}
use Rattle.ssf_model.proofs.opening.are_at_most.Given as goal

abbrev pub invariant-loop-index : goal.invariant-loop-index
invariant-loop-index l = Each (λ n. n ≤ l.most) l.numbers ↔ Each (λ n. n ≤ l.most) (drop l.index l.numbers)
