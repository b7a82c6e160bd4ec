use Rattle.std.proofs.Common.{◌≡◌, ◌++◌}
use Rattle.std.specs.List.{flat_map}
use Rattle.net_graph.specs.Networks.{numbers}
use Rattle.net_build.specs.PlanText.{net_line}
use Rattle.net_build.proofs.text.push_nets.Given as goal

abbrev pub invariant-loop-net : goal.invariant-loop-net
invariant-loop-net l = l.out.items ≡ l.fn.out.items ++ flat_map (net_line l.network) (numbers l.net)
