use Rattle.std.proofs.Common.{◌≡◌, take}
use Rattle.global_list.proofs.pending.PendingEvents.of.Given as goal

abbrev pub invariant-loop-event : goal.invariant-loop-event
invariant-loop-event g l = l.pending ≡ take l.event-index l.fn.events
