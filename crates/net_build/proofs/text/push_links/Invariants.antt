use Rattle.std.proofs.Common.{◌≡◌, ◌++◌}
use Rattle.std.specs.List.{flat_map}
use Rattle.net_graph.specs.Networks.{numbers}
use Rattle.net_build.specs.PlanText.{link_lines}
use Rattle.net_build.proofs.text.push_links.Given as goal

abbrev pub invariant-loop-link : goal.invariant-loop-link
invariant-loop-link l = l.out.items ≡ l.fn.out.items ++ flat_map (link_lines l.network) (numbers l.link)
