use Rattle.std.proofs.Common.{◌≡◌, map, take}
use Rattle.net_layout.specs.Ports.{span_of}
use Rattle.net_hosts.proofs.rows.spans.Given as goal

abbrev pub invariant-loop-down : goal.invariant-loop-down
invariant-loop-down l = l.spans.items ≡ map span_of (take l.down-index l.downs)
