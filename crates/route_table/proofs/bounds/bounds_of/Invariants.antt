use Rattle.route_table.specs.Tables.{HasBounds}
use Rattle.route_table.proofs.bounds.bounds_of.Given as goal

abbrev pub invariant-loop-place : goal.invariant-loop-place
invariant-loop-place l = HasBounds l.routes l.place l.bounds.items
