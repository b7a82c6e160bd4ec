use Rattle.std.proofs.Common.{◌≡◌, ◌++◌, take}
use Rattle.std.specs.List.{flat_map}
use Rattle.net_build.specs.PlanText.{route_line}
use Rattle.net_build.proofs.routes.push_table.Given as goal

abbrev pub invariant-loop-route : goal.invariant-loop-route
invariant-loop-route l = l.out.items ≡ l.fn.out.items ++ flat_map (route_line l.network l.host) (take l.route-index l.routes)
