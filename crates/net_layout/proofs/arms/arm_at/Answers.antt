use Rattle.std.proofs.Common.{arith}
use Rattle.net_layout.proofs.Rows.{address_room}
use Rattle.net_layout.proofs.arms.arm_at.Goals as goal

pub address-requires-clause-link : goal.address-requires-clause-link
address-requires-clause-link c = omega (arith, c.requires.blocks.links)

pub address-requires-clause-place : goal.address-requires-clause-place
address-requires-clause-place c = address_room c.args.network.now c.args.blocks.now c.args.link c.args.place c.requires.blocks c.requires.link c.requires.place
