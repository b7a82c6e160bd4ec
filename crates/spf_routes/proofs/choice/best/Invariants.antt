use Rattle.spf_routes.specs.Best.{IsChoice}
use Rattle.spf_routes.proofs.choice.best.Given as goal

abbrev pub invariant-loop-place : goal.invariant-loop-place
invariant-loop-place l = IsChoice l.routes l.address l.place l.best
