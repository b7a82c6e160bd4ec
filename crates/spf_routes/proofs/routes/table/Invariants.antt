use Rattle.std.proofs.Common.{ℕ, List}
use Rattle.spf_routes.specs.Arms.{AreRoutes}
use Rattle.spf_routes.proofs.routes.table.Given as goal

abbrev pub invariant-loop-link : goal.invariant-loop-link
invariant-loop-link l = (links : List ℕ) × AreRoutes l.blocks l.direct l.best l.link l.routes.items links
