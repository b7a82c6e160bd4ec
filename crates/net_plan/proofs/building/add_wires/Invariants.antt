use Rattle.std.proofs.Common.{length}
use Rattle.net_plan.specs.NetPlan.{IsSoFar}
use Rattle.net_plan.proofs.building.add_wires.Given as goal

abbrev pub invariant-loop-number : goal.invariant-loop-number
invariant-loop-number l = IsSoFar l.network (length l.network.hosts) l.number l.builder
