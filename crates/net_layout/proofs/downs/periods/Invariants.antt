use Rattle.std.proofs.Common.{◌≡◌, take, [], ◌∷◌}
use Rattle.std.specs.List.{fold}
use Rattle.net_layout.specs.Periods.{with_link}
use Rattle.net_layout.proofs.downs.periods.Given as goal

abbrev pub invariant-loop-link : goal.invariant-loop-link
invariant-loop-link l = l.ticks.items ≡ fold with_link (0 ∷ []) (take l.link-index l.network.links)
