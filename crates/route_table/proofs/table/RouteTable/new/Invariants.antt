use Rattle.route_table.specs.Tables.{AreChosen}
use Rattle.route_table.proofs.table.RouteTable.new.Given as goal

abbrev pub invariant-loop-place : goal.invariant-loop-place
invariant-loop-place l = AreChosen l.routes l.bounds.items l.place l.best.items
