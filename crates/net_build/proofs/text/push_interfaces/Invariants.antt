use Rattle.std.proofs.Common.{◌≡◌, ◌++◌}
use Rattle.std.specs.List.{flat_map}
use Rattle.net_graph.specs.Networks.{numbers}
use Rattle.net_build.specs.PlanText.{interface_line}
use Rattle.net_build.proofs.text.push_interfaces.Given as goal

abbrev pub invariant-loop-interface : goal.invariant-loop-interface
invariant-loop-interface l = l.out.items ≡ l.fn.out.items ++ flat_map (interface_line l.network) (numbers l.interface)
