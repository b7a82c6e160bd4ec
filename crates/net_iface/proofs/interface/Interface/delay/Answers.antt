-- The buffer had room, so the delay is short, and its sum fits.
use Rattle.std.proofs.Common.{arith}
use Rattle.net_iface.proofs.DelayBounds.{delay_short}
use Rattle.net_iface.proofs.interface.Interface.delay.Goals as goal

pub overflow_add-result : goal.overflow_add-result
overflow_add-result c =
    let room = rw (← c.self.view_is) at c.requires in
    let short = delay_short _ _ _ c.args.wait c.args.bytes c.self.invariant.rated room in
    grind (arith, short, c.div_ceil-ticks.ensures)

pub returns-clause-short : goal.returns-clause-short
returns-clause-short c =
    let room = rw (← c.self.view_is) at c.requires in
    let short = delay_short _ _ _ c.args.wait c.args.bytes c.self.invariant.rated room in
    grind (arith, short, c.div_ceil-ticks.ensures)
