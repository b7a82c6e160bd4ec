use Rattle.std.proofs.Common.{◌≡◌, ℕ, take}
use Rattle.timeline_parts.specs.RouteMap.{route}
use Rattle.timeline.specs.View.{routes_by}
use Rattle.timeline.proofs.opening.routes_of.Given as goal

abbrev pub invariant-loop-cross : goal.invariant-loop-cross
invariant-loop-cross l = (out : ℕ) → route l.routes.by_out out ≡ routes_by l.fn.inside (take l.cross-index l.fn.outs) out
