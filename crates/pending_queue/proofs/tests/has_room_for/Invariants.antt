use Rattle.std.proofs.Common.{◌<◌}
use Rattle.event_order.specs.Pending.{Among}
use Rattle.pending_queue.specs.declared.tests.Token.{Token}
use Rattle.pending_queue.proofs.tests.has_room_for.Given as goal

abbrev pub invariant-loop-channel : goal.invariant-loop-channel
invariant-loop-channel l = (other : Token) → Among other l.queue.items → other.key.channel < l.channel
