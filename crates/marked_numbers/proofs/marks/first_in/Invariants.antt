use Rattle.std.proofs.Common.{ℕ, ◌<◌, ◌≤◌}
use Rattle.marked_numbers.specs.Least.{IsMarked}
use Rattle.marked_numbers.proofs.marks.first_in.Given as goal

abbrev pub invariant-loop-number : goal.invariant-loop-number
invariant-loop-number l = (k : ℕ) → l.from ≤ k → k < l.number → IsMarked l.marked k → ⊥
