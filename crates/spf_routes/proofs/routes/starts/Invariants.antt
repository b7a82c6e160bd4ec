use Rattle.std.proofs.Common.{length, take}
use Rattle.spf_routes.proofs.Starting.{AreSoFar}
use Rattle.spf_routes.proofs.routes.starts.Given as goal

abbrev pub invariant-loop-second : goal.invariant-loop-second
invariant-loop-second l = AreSoFar l.arms (take l.second-index l.arms) l.from (length l.direct) l.starts.items
