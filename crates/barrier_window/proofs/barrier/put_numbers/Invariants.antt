use Rattle.std.proofs.Common.{◌≡◌, take}
use Rattle.barrier_window.specs.Crossings.{latest_of}
use Rattle.barrier_window.proofs.barrier.put_numbers.Given as goal

abbrev pub invariant-loop-pair : goal.invariant-loop-pair
invariant-loop-pair l = l.numbers ≡ latest_of (take l.pair-index l.pairs) l.channels l.initial.numbers
