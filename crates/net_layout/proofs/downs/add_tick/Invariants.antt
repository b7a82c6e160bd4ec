use Rattle.std.proofs.Common.{◌≡◌}
use Rattle.net_layout.proofs.Ticks.{IsSought}
use Rattle.net_layout.proofs.downs.add_tick.Given as goal

abbrev pub invariant-loop-place : goal.invariant-loop-place
invariant-loop-place l = (l.ticks.items ≡ l.fn.ticks.items) × IsSought l.ticks.items l.place l.tick
