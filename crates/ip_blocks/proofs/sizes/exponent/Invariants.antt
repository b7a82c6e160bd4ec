use Rattle.std.proofs.Common.{ℕ, ◌-◌, ◌^◌, ◌<◌, ◌≤◌}
use Rattle.ip_blocks.proofs.sizes.exponent.Given as goal

abbrev pub invariant-loop-exponent : goal.invariant-loop-exponent
invariant-loop-exponent l = (l.exponent ≤ 33) × ((f : ℕ) → f < l.exponent → 2 ^ f < l.addresses)

abbrev pub decreases-loop-exponent : goal.decreases-loop-exponent
decreases-loop-exponent l = 33 - l.exponent
