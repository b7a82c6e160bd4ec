use Rattle.timeline_parts.proofs.Settles.{Settled}
use Rattle.timeline_parts.proofs.settling.settle.Given as goal

abbrev pub invariant-loop-event : goal.invariant-loop-event
invariant-loop-event g l = Settled l.fn.ends l.fn.from l.fn.written l.event-index l.fn.pending.items l.fn.arrival l.pending.items l.pending.spare l.least
