use Rattle.std.proofs.Common.{◌≡◌, map, take}
use Rattle.ip_blocks.specs.Blocks.{block_of}
use Rattle.ip_blocks.specs.Members.{part_of}
use Rattle.ip_blocks.proofs.placed.block_list.Given as goal

abbrev pub invariant-loop-member : goal.invariant-loop-member
invariant-loop-member l = let parts = map part_of l.members in l.blocks.items ≡ map (block_of parts) (take l.member-index parts)
