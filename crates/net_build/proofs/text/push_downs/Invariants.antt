use Rattle.std.proofs.Common.{◌≡◌, ◌++◌, take}
use Rattle.std.specs.List.{flat_map}
use Rattle.net_build.specs.PlanText.{down_line}
use Rattle.net_build.proofs.text.push_downs.Given as goal

abbrev pub invariant-loop-down : goal.invariant-loop-down
invariant-loop-down l = l.out.items ≡ l.fn.out.items ++ flat_map (down_line l.link) (take l.down-index l.downs)
