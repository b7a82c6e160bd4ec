use Rattle.std.proofs.Common.{◌≡◌, ◌++◌, map}
use Rattle.std.specs.List.{filter, range_with_len}
use Rattle.sync_steps.specs.declared.steps.Step.TheVariants.{Enter}
use Rattle.core_rules.specs.Stepping.{is_enabled}
use Rattle.sync_core.proofs.core_parts.Core.add_enters.Given as goal

abbrev pub invariant-loop-number : goal.invariant-loop-number
invariant-loop-number g l = l.steps.items ≡ l.initial.steps.items ++ filter (is_enabled l.self) (map Enter (range_with_len 0 l.number))
