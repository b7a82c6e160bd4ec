use Rattle.std.proofs.Common.{◌≡◌, ◌+◌, ◌≤◌, take}
use Rattle.event_order.specs.Pending.{put_all}
use Rattle.timeline.specs.View.{key_of}
use Rattle.timeline.proofs.opening.put_in.Given as goal

abbrev pub invariant-loop-event : goal.invariant-loop-event
invariant-loop-event g l = (l.pending.items ≡ put_all key_of (take l.event-index l.fn.events) l.fn.pending.items) × (l.fn.pending.spare ≤ l.pending.spare + l.event-index)
