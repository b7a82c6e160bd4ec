use Rattle.std.proofs.Common.{ℕ, ◌<◌}
use Rattle.core_rules.specs.Reading.{BudgetEndsIn}
use Rattle.worker_pool.proofs.ending.budget_end.Given as goal

abbrev pub invariant-loop-number : goal.invariant-loop-number
invariant-loop-number g l = (i : ℕ) → i < l.number → BudgetEndsIn l.core i → ⊥
