use Rattle.std.proofs.Common.{sym, arith}
use Rattle.net_layout.proofs.Rows.{address_room}
use Rattle.net_layout.proofs.arms.address.Goals as goal

pub address-requires-clause-link : goal.address-requires-clause-link
address-requires-clause-link c = omega (arith, c.requires.blocks.links, (c.requires.network.interfaces c.args.interface c.requires.interface).link c.in-Some.at (sym c.in-Some.ensures))

pub address-requires-clause-place : goal.address-requires-clause-place
address-requires-clause-place c =
    let row = c.requires.network.interfaces c.args.interface c.requires.interface in
    address_room c.args.network.now c.args.blocks.now c.in-Some.at.0 c.in-Some.at.1 c.requires.blocks (row.link c.in-Some.at (sym c.in-Some.ensures)) (row.place c.in-Some.at (sym c.in-Some.ensures))
