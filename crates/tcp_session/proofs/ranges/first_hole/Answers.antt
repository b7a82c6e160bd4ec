use Rattle.std.proofs.Common.{arith}
use Rattle.tcp_session.proofs.Scanning.{scan_stops, scan_ends}
use Rattle.tcp_session.proofs.ranges.first_hole.Goals as goal

pub returns-then-reached-range : goal.returns-then-reached-range
returns-then-reached-range c =
    scan_stops c.args.items.now c.args.position c.loop-range.reached c.loop-range.range-index _ c.requires c.loop-range.invariant c.loop-range-test.true c.if-reached-range.true

pub returns : goal.returns
returns c =
    scan_ends c.args.items.now c.args.position c.loop-range.reached c.loop-range.range-index c.requires c.loop-range.invariant (omega arith)
