use Rattle.std.proofs.Common.{◌≡◌, take}
use Rattle.alignment.specs.Alignment.{timeline_count}
use Rattle.plan_shares.specs.Shares.{events_on}
use Rattle.plan_shares.specs.Lists.{for_each}
use Rattle.plan_shares.proofs.entities.put_events.Given as goal

abbrev pub invariant-loop-event : goal.invariant-loop-event
invariant-loop-event g l = l.lists ≡ for_each (timeline_count l.fn.alignment) (λ i. events_on l.fn.alignment i (take l.event-index l.fn.events))
