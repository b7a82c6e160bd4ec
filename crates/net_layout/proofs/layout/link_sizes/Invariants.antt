use Rattle.std.proofs.Common.{◌≡◌, map, take}
use Rattle.net_graph.specs.Networks.{link_size}
use Rattle.net_layout.proofs.layout.link_sizes.Given as goal

abbrev pub invariant-loop-link : goal.invariant-loop-link
invariant-loop-link l = l.sizes.items ≡ map link_size (take l.link-index l.network.links)
