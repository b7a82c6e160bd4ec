use Rattle.std.proofs.Common.{◌≡◌, take, drop}
use Rattle.std.specs.List.{filter, enumerate_from}
use Rattle.alignment.specs.Alignment.{timeline_count}
use Rattle.plan_shares.specs.Shares.{is_on}
use Rattle.plan_shares.specs.Lists.{for_each}
use Rattle.plan_shares.proofs.entities.put_entities.Given as goal

abbrev pub invariant-loop-entity : goal.invariant-loop-entity
invariant-loop-entity g l =
    (goal.iterator-loop-entity g).can_next l.entity-iterator
    × (goal.iterator-loop-entity g).is_finite l.entity-iterator
    × (l.lists ≡ for_each (timeline_count l.fn.alignment) (λ i. filter (λ x. is_on l.fn.alignment i x.0) (take l.number (enumerate_from 0 l.fn.entities))))
    × (drop l.number l.fn.entities ≡ l.entity-iterator.rest.items)
