use Rattle.std.proofs.Common.{◌≡◌, drop}
use Rattle.timeline.specs.Holding.{holder_of}
use Rattle.timeline.proofs.bounds.holder_of.Given as goal

abbrev pub invariant-loop-end : goal.invariant-loop-end
invariant-loop-end l = holder_of l.fn.bound l.fn.ends ≡ holder_of l.fn.bound (drop l.end-index l.fn.ends)
