use Rattle.std.proofs.Common.{◌≡◌, map, take}
use Rattle.net_plan.specs.NetPlan.{net_in}
use Rattle.net_plan.proofs.naming.host_nets.Given as goal

abbrev pub invariant-loop-host : goal.invariant-loop-host
invariant-loop-host l = l.nets.items ≡ map net_in (take l.host-index l.network.hosts)
