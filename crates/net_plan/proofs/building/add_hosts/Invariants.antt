use Rattle.std.proofs.Common.{◌≡◌, length}
use Rattle.net_plan.specs.NetPlan.{IsSoFar}
use Rattle.net_plan.proofs.building.add_hosts.Given as goal

abbrev pub invariant-loop-row : goal.invariant-loop-row
invariant-loop-row l = (l.host ≡ length l.yielded) × IsSoFar l.network l.host 0 l.builder
