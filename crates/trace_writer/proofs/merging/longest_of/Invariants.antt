use Rattle.std.proofs.Common.{◌≡◌, max, length, take}
use Rattle.std.specs.List.{fold}
use Rattle.trace_writer.proofs.merging.longest_of.Given as goal

abbrev pub invariant-loop-name : goal.invariant-loop-name
invariant-loop-name l = l.longest ≡ fold (λ longest name. max longest (length name)) 0 (take l.name-index l.name-items)
