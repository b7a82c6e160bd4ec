use Rattle.std.proofs.Common.{arith}
use Rattle.net_layout.proofs.OutLists.{ends_there, outs_skip, outs_more}
use Rattle.net_layout.proofs.host_ports.add_out.Goals as goal

pub returns-in-None : goal.returns-in-None
returns-in-None c = outs_skip c.args.network.now c.requires.network c.args.number c.args.wire c.requires.wire c.args.outs.now.items c.requires.outs c.in-None.is

pub address_or_zero-address-requires-clause-interface : goal.address_or_zero-address-requires-clause-interface
address_or_zero-address-requires-clause-interface c = (ends_there c.args.network.now c.requires.network c.args.number c.args.wire c.requires.wire c.in-Some.ends c.in-Some.is).1

pub append_at-requires : goal.append_at-requires
append_at-requires c =
    let there = (ends_there c.args.network.now c.requires.network c.args.number c.args.wire c.requires.wire c.in-Some.ends c.in-Some.is).0 in
    omega (arith, c.requires.outs.as_many)

pub returns-in_ok-append_at-in-Some : goal.returns-in_ok-append_at-in-Some
returns-in_ok-append_at-in-Some c =
    rw c.in_ok-append_at-in-Some.ensures
    (outs_more c.args.network.now c.requires.network c.args.number c.args.wire c.requires.wire c.args.outs.now.items c.in-Some.ends c.address_or_zero-address.result c.requires.outs c.in-Some.is c.address_or_zero-address.ensures)
