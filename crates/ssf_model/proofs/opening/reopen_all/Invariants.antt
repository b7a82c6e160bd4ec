use Rattle.std.proofs.Common.{◌≡◌, ◌+◌, ◌++◌, length, take, drop}
use Rattle.std.specs.List.{AllZip}
use Rattle.ssf_model.specs.Openings.{IsAsLong, reopened_entities}
use Rattle.ssf_model.proofs.opening.reopen_all.Given as goal

abbrev pub invariant-loop-opened : goal.invariant-loop-opened
invariant-loop-opened g l =
    (goal.iterator-loop-opened g).can_next l.opened-iterator
    × (goal.iterator-loop-opened g).is_finite l.opened-iterator
    × (take l.index l.entities.items ++ reopened_entities (drop l.index l.entities.items) l.opened-iterator.rest.items ≡ reopened_entities l.fn.entities.items l.fn.opened.items)
    × AllZip IsAsLong (drop l.index l.entities.items) l.opened-iterator.rest.items
    × (length l.opened-iterator.rest.items + l.index ≡ length l.entities.items)
