use Rattle.std.proofs.Common.{◌≡◌, take}
use Rattle.net_layout.proofs.arms.link_blocks.Given as goal

abbrev pub invariant-loop-link : goal.invariant-loop-link
invariant-loop-link l = l.list.items ≡ take l.link l.blocks.links
