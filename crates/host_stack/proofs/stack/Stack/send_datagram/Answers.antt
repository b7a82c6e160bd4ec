use Rattle.std.proofs.Common.{◌-◌, sym, subst}
use Rattle.host_rules.specs.Hosts.{Stack}
use Rattle.host_rules.specs.Reacting.{with_left}
use Rattle.host_rules.specs.Limits.{IsStack}
use Rattle.host_rules.proofs.Giving.{left_stack}
use Rattle.host_sending.proofs.Reaching.{sending_keeps}
use Rattle.host_stack.specs.contracts.stack.Stack.{the_view}
use Rattle.host_stack.proofs.stack.Stack.send_datagram.Goals as goal

pub returns-clause-kept : goal.returns-clause-kept
returns-clause-kept c =
    let before = the_view c.self.inside in
    let bytes = c.index_mut.result.now - c.args.bytes in
    subst (λ (t : Stack). IsStack c.args.site.now t) (sym c.send.ensures.stack)
    (sending_keeps c.args.site.now c.args.now c.datagram-packet.result (with_left c.args.client bytes before) c.known.ensures c.requires.now
    (left_stack c.args.site.now before c.args.client bytes (rw (← c.self.view_is) at c.requires.valid)))
