use Rattle.std.proofs.Common.{◌≡◌, take, map}
use Rattle.plan_shares.specs.Shares.{end_of}
use Rattle.plan_shares.proofs.crosses.put_ends.Given as goal

abbrev pub invariant-loop-cross : goal.invariant-loop-cross
invariant-loop-cross l = l.ends.items ≡ map (end_of l.fn.alignment) (take l.cross-index l.fn.crosses)
