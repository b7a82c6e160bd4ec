use Rattle.std.proofs.Common.{◌≡◌, ℕ, length, subst, arith}
use Rattle.route_table.specs.Tables.{AreChosen}
use Rattle.route_table.proofs.Finding.{table_is}
use Rattle.route_table.proofs.table.RouteTable.new.Goals as goal

pub returns : goal.returns
returns c =
    let routes = c.args.routes.now in
    let bounds = c.in_ok-bounds.bounds.items in
    let same : c.loop-place.place ≡ length routes = omega arith in
    table_is routes bounds c.loop-place.best.items c.in_ok-bounds.ensures.rising c.in_ok-bounds.ensures.all (subst (λ (n : ℕ). AreChosen routes bounds n c.loop-place.best.items) same c.loop-place.invariant)
