use Rattle.std.proofs.Common.{◌-◌, ◌≤◌, length, map}
use Rattle.timeline_parts.proofs.Tables.{IsHalved}
use Rattle.core_rules.specs.Cores.{channel_in}
use Rattle.sync_core.proofs.ends.end_of.Given as goal

abbrev pub invariant-loop-low : goal.invariant-loop-low
invariant-loop-low l = (l.low ≤ l.high) × (l.high ≤ length l.ends) × IsHalved (map channel_in l.ends) l.channel l.low l.high

abbrev pub decreases-loop-low : goal.decreases-loop-low
decreases-loop-low l = l.high - l.low
