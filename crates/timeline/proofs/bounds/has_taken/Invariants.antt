use Rattle.std.proofs.Common.{◌≡◌, drop}
use Rattle.timeline.specs.Holding.{has_taken}
use Rattle.timeline.proofs.bounds.has_taken.Given as goal

abbrev pub invariant-loop-end : goal.invariant-loop-end
invariant-loop-end l = has_taken l.fn.ends l.fn.counts ≡ has_taken (drop l.end-index l.fn.ends) l.fn.counts
