use Rattle.std.proofs.Common.{◌≡◌, drop}
use Rattle.tcp_session.proofs.Scanning.{reach}
use Rattle.tcp_session.proofs.ranges.first_hole.Given as goal

abbrev pub invariant-loop-range : goal.invariant-loop-range
invariant-loop-range l = reach l.position l.items ≡ reach l.reached (drop l.range-index l.items)
