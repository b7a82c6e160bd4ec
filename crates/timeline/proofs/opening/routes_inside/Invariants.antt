use Rattle.std.proofs.Common.{◌≡◌, ℕ, take}
use Rattle.timeline_parts.specs.RouteMap.{route}
use Rattle.timeline_parts.specs.Sending.{mappings_on}
use Rattle.timeline.proofs.opening.routes_inside.Given as goal

abbrev pub invariant-loop-mapping : goal.invariant-loop-mapping
invariant-loop-mapping l = (out : ℕ) → route l.routes.by_out out ≡ mappings_on out (take l.mapping-index l.fn.inside)
