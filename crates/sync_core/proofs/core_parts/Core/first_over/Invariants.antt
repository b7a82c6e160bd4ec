use Rattle.std.proofs.Common.{ℕ, ◌<◌}
use Rattle.core_rules.specs.Reading.{BudgetEndsIn}
use Rattle.sync_core.proofs.core_parts.Core.first_over.Given as goal

abbrev pub invariant-loop-number : goal.invariant-loop-number
invariant-loop-number g l = (i : ℕ) → i < l.number → BudgetEndsIn l.self i → ⊥
