use Rattle.std.proofs.Common.{◌∙◌, ap, sym, subst}
use Rattle.tcp_rules.specs.Sessions.{accepting}
use Rattle.host_rules.specs.declared.rows.HostRows.{HostRows}
use Rattle.host_rules.specs.Hosts.{Stack}
use Rattle.host_rules.specs.Limits.{IsStack}
use Rattle.host_stack.proofs.Valid.{accepts_valid}
use Rattle.host_stack.proofs.stack.Stack.accept.Goals as goal

pub add_accepted-requires-clause-order : goal.add_accepted-requires-clause-order
add_accepted-requires-clause-order c =
    let valid =
    accepts_valid c.args.site.now c.args.self.now c.args.sockets.now c.args.segment.now c.args.now c.in_ok-session.session c.known.ensures c.requires.valid c.known-2.ensures c.requires.own c.requires.none c.requires.room
    (c.in_ok-session.ensures.session ∙ ap (λ (rows : HostRows). (accepting rows.tcp c.args.segment.now c.args.now).after) c.rows.ensures)
    in
    valid.order

pub do_all-requires-clause-valid : goal.do_all-requires-clause-valid
do_all-requires-clause-valid c =
    subst (λ (t : Stack). IsStack c.args.site.now t) (sym c.in_ok-add_accepted.ensures.ok)
    (accepts_valid c.args.site.now c.args.self.now c.args.sockets.now c.args.segment.now c.args.now c.in_ok-session.session c.known.ensures c.requires.valid c.known-2.ensures c.requires.own c.requires.none c.requires.room
    (c.in_ok-session.ensures.session ∙ ap (λ (rows : HostRows). (accepting rows.tcp c.args.segment.now c.args.now).after) c.rows.ensures))
