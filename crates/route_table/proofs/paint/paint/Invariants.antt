use Rattle.route_table.proofs.Painting.{IsPainted}
use Rattle.route_table.proofs.paint.paint.Given as goal

abbrev pub invariant-loop-at : goal.invariant-loop-at
invariant-loop-at l = IsPainted l.routes l.bounds l.place l.at l.best.items
