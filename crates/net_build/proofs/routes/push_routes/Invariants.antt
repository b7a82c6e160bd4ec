use Rattle.std.proofs.Common.{◌≡◌, ◌++◌, ℕ, List}
use Rattle.net_build.specs.PlanText.{AreTexts, IsHostText}
use Rattle.net_build.proofs.routes.push_routes.Given as goal

abbrev pub invariant-loop-host : goal.invariant-loop-host
invariant-loop-host l = (text : List ℕ) × AreTexts (IsHostText l.network l.tick) l.host text × (l.out.items ≡ l.fn.out.items ++ text)
