use Rattle.std.proofs.Common.{◌↔◌, drop}
use Rattle.event_order.specs.Pending.{Among}
use Rattle.host_roles.proofs.placed.is_among.Given as goal

abbrev pub invariant-loop-index : goal.invariant-loop-index
invariant-loop-index l = Among l.channel l.channels ↔ Among l.channel (drop l.index l.channels)
