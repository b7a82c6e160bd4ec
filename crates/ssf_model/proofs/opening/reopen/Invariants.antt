use Rattle.std.proofs.Common.{◌≡◌, ◌+◌, ◌++◌, length, take, drop}
use Rattle.ssf_model.specs.Openings.{reopened_processes}
use Rattle.ssf_model.proofs.opening.reopen.Given as goal

abbrev pub invariant-loop-wait : goal.invariant-loop-wait
invariant-loop-wait g l =
    (goal.iterator-loop-wait g).can_next l.wait-iterator
    × (goal.iterator-loop-wait g).is_finite l.wait-iterator
    × (take l.index l.entity.processes ++ reopened_processes (drop l.index l.entity.processes) l.wait-iterator.rest.items (drop l.index l.tickets)
    ≡ reopened_processes l.fn.entity.processes l.fn.opened.waits l.fn.opened.tickets)
    × (length l.wait-iterator.rest.items + l.index ≡ length l.entity.processes)
    × (length l.tickets ≡ length l.entity.processes)
    × (l.entity.state ≡ l.fn.opened.state)
    × (l.entity.in_channels ≡ l.fn.entity.in_channels)
    × (l.entity.out_channels ≡ l.fn.entity.out_channels)
