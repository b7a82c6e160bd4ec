use Rattle.std.proofs.Common.{◌≡◌, take, map}
use Rattle.timeline.specs.Opening.{first_out}
use Rattle.timeline.proofs.opening.out_ends_of.Given as goal

abbrev pub invariant-loop-cross : goal.invariant-loop-cross
invariant-loop-cross g l = l.ends.items ≡ map (first_out {P = g.row.P.Denot}) (take l.cross-index l.fn.outs)
