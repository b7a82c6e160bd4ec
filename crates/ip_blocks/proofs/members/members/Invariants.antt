use Rattle.std.proofs.Common.{◌+◌, length}
use Rattle.ip_blocks.specs.Blocks.{parts_of}
use Rattle.ip_blocks.proofs.Listing.{AreListed}
use Rattle.ip_blocks.proofs.members.members.Given as goal

abbrev pub invariant-loop-number : goal.invariant-loop-number
invariant-loop-number l = AreListed l.members.items (parts_of l.links l.nets) l.number

abbrev pub invariant-loop-link : goal.invariant-loop-link
invariant-loop-link l = AreListed l.members.items (parts_of l.links l.nets) (length l.nets + l.link-index)
