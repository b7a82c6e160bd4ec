use Rattle.std.proofs.Common.{◌≡◌, ◌+◌, ◌≤◌, ◌++◌, length, vec_len, vec_capacity}
use Rattle.timeline.proofs.opening.drained.Given as goal

abbrev pub invariant-loop-event : goal.invariant-loop-event
invariant-loop-event g l = (l.events.items ++ l.pending.items ≡ l.fn.pending.items) × (vec_len l.events + length l.pending.items ≤ vec_capacity l.events)

abbrev pub decreases-loop-event : goal.decreases-loop-event
decreases-loop-event g l = length l.pending.items
