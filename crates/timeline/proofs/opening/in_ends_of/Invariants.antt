use Rattle.std.proofs.Common.{◌≡◌, take, map}
use Rattle.timeline.specs.Opening.{first_in}
use Rattle.timeline.proofs.opening.in_ends_of.Given as goal

abbrev pub invariant-loop-cross : goal.invariant-loop-cross
invariant-loop-cross l = l.ends.items ≡ map first_in (take l.cross-index l.fn.ins)
