use Rattle.std.proofs.Common.{◌≡◌, map}
use Rattle.std.specs.List.{range_with_len}
use Rattle.net_build.specs.PlanText.{host_text}
use Rattle.net_plan.proofs.naming.host_names.Given as goal

abbrev pub invariant-loop-host : goal.invariant-loop-host
invariant-loop-host l = l.names.items ≡ map (host_text l.network) (range_with_len 0 l.host)
