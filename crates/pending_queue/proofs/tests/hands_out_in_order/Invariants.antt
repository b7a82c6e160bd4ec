use Rattle.std.proofs.Common.{◌≡◌, ◌<◌}
use Rattle.event_order.specs.Pending.{Among}
use Rattle.pending_queue.specs.declared.tests.Token.{Token}
use Rattle.pending_queue.proofs.tests.hands_out_in_order.Given as goal

abbrev pub invariant-loop-time : goal.invariant-loop-time
invariant-loop-time l = record {
  below : (other : Token) → Among other l.queue.items → other.key.channel < l.channel;
  counted : l.channel ≡ l.time-index;
}
