use Rattle.std.proofs.Common.{◌≡◌, take}
use Rattle.std.specs.List.{fold}
use Rattle.net_layout.specs.Periods.{with_down}
use Rattle.net_layout.proofs.downs.add_link.Given as goal

abbrev pub invariant-loop-down : goal.invariant-loop-down
invariant-loop-down l = l.ticks.items ≡ fold with_down l.fn.ticks.items (take l.down-index l.link.downs)
