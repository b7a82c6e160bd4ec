use Rattle.std.proofs.Common.{◌∙◌, ap, sym, subst}
use Rattle.tcp_rules.specs.Sessions.{connecting}
use Rattle.host_rules.specs.declared.rows.HostRows.{HostRows}
use Rattle.host_rules.specs.Hosts.{Stack}
use Rattle.host_rules.specs.Limits.{IsStack}
use Rattle.host_rules.proofs.Finding.{opened_few}
use Rattle.host_stack.proofs.Valid.{row_ranges, given_length, opens_valid}
use Rattle.host_stack.proofs.stack.Stack.open.Goals as goal

pub transfer_sockets-sockets-requires : goal.transfer_sockets-sockets-requires
transfer_sockets-sockets-requires c = opened_few c.args.site.now c.args.self.now c.known.ensures c.requires.valid

pub connect-requires-clause-bytes : goal.connect-requires-clause-bytes
connect-requires-clause-bytes c = let timed = row_ranges c.args.site.now c.args.client c.args.row.now c.known.ensures c.requires.row in timed.ranges.file

pub add_transfer-requires-clause-client : goal.add_transfer-requires-clause-client
add_transfer-requires-clause-client c = given_length c.args.site.now c.args.self.now c.args.client c.args.row.now c.requires.valid c.requires.row

pub add_transfer-requires-clause-opened : goal.add_transfer-requires-clause-opened
add_transfer-requires-clause-opened c = opened_few c.args.site.now c.args.self.now c.known.ensures c.requires.valid

pub add_transfer-requires-clause-order : goal.add_transfer-requires-clause-order
add_transfer-requires-clause-order c =
    let valid =
    opens_valid c.args.site.now c.args.self.now c.args.client c.args.row.now c.args.server.now c.args.now c.transfer_sockets-sockets.result c.in_ok-session.session c.known.ensures c.requires.valid c.requires.row
    c.requires.server c.transfer_sockets-sockets.ensures (c.in_ok-session.ensures.session ∙ ap (λ (rows : HostRows). (connecting rows.tcp c.args.row.now.file c.args.now).after) c.rows.ensures)
    in
    valid.order

pub do_all-requires-clause-valid : goal.do_all-requires-clause-valid
do_all-requires-clause-valid c =
    subst (λ (t : Stack). IsStack c.args.site.now t) (sym c.in_ok-add_transfer.ensures.ok)
    (opens_valid c.args.site.now c.args.self.now c.args.client c.args.row.now c.args.server.now c.args.now c.transfer_sockets-sockets.result c.in_ok-session.session c.known.ensures c.requires.valid c.requires.row
    c.requires.server c.transfer_sockets-sockets.ensures (c.in_ok-session.ensures.session ∙ ap (λ (rows : HostRows). (connecting rows.tcp c.args.row.now.file c.args.now).after) c.rows.ensures))
