use Rattle.std.proofs.Common.{◌≡◌, map, take}
use Rattle.net_graph.specs.Networks.{net_parent}
use Rattle.net_layout.proofs.layout.net_parents.Given as goal

abbrev pub invariant-loop-net : goal.invariant-loop-net
invariant-loop-net l = l.parents.items ≡ map net_parent (take l.net-index l.network.nets)
