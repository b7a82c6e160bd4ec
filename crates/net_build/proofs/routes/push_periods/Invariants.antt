use Rattle.std.proofs.Common.{◌≡◌, ◌++◌, ℕ, List}
use Rattle.net_build.specs.PlanText.{AreTexts, IsPeriodText}
use Rattle.net_build.proofs.routes.push_periods.Given as goal

abbrev pub invariant-loop-period : goal.invariant-loop-period
invariant-loop-period l = (text : List ℕ) × AreTexts (IsPeriodText l.network) l.period text × (l.out.items ≡ l.fn.out.items ++ text)
