use Rattle.std.proofs.Common.{sym}
use Rattle.host_stack.specs.contracts.stack.Stack.{the_view}
use Rattle.host_stack.proofs.Sending.{none_refills}
use Rattle.host_stack.proofs.stack.Stack.refill.Goals as goal

pub returns-else-is_some : goal.returns-else-is_some
returns-else-is_some c =
    rw (← c.self.view_is)
    (none_refills c.args.client c.args.file (the_view c.self.inside) c.next.new.self c.next.result c.next.ensures.server (sym c.if-is_some.ensures) c.next.ensures.after (c.next.ensures.none.0 (sym c.if-is_some.ensures)))
