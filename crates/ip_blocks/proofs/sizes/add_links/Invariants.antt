use Rattle.std.proofs.Common.{map, take}
use Rattle.ip_blocks.specs.Blocks.{link_part}
use Rattle.ip_blocks.specs.Sums.{AreSums}
use Rattle.ip_blocks.proofs.sizes.add_links.Given as goal

abbrev pub invariant-loop-link : goal.invariant-loop-link
invariant-loop-link l = AreSums l.sums (map link_part (take l.link-index l.links))
