use Rattle.std.proofs.Common.{◌≡◌, ◌+◌, take}
use Rattle.ssf_model.specs.Drafts.{timers, first_processes}
use Rattle.ssf_model.proofs.builder.first_processes.Given as goal

abbrev pub invariant-loop-flag : goal.invariant-loop-flag
invariant-loop-flag l =
    (l.processes.items ≡ first_processes l.first (take l.flag-index l.flags)) × (l.next ≡ l.first + timers (take l.flag-index l.flags))
