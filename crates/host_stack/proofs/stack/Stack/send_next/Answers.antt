use Rattle.std.proofs.Common.{arith}
use Rattle.host_stack.proofs.Valid.{row_ranges, given_length, left_length}
use Rattle.host_stack.proofs.stack.Stack.send_next.Goals as goal

pub given-requires : goal.given-requires
given-requires c = rw (← c.self.view_is) at (given_length c.args.site.now c.args.self.now c.args.client c.args.row.now c.requires.valid c.requires.row)

pub send_datagram-requires-clause-client : goal.send_datagram-requires-clause-client
send_datagram-requires-clause-client c = left_length c.args.site.now c.args.self.now c.args.client c.args.row.now c.requires.valid c.requires.row

pub send_datagram-requires-clause-few : goal.send_datagram-requires-clause-few
send_datagram-requires-clause-few c =
    let timed = row_ranges c.args.site.now c.args.client c.args.row.now c.known.ensures c.requires.row in
    let most = timed.ranges.datagram.1 in
    omega (arith, most, c.min-bytes.ensures)
