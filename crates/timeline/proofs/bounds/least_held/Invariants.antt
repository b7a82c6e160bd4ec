use Rattle.std.proofs.Common.{◌≡◌, take}
use Rattle.timeline.specs.Holding.{least_held}
use Rattle.timeline.proofs.bounds.least_held.Given as goal

abbrev pub invariant-loop-end : goal.invariant-loop-end
invariant-loop-end l = l.bound ≡ least_held l.fn.entered (take l.end-index l.fn.ends)
