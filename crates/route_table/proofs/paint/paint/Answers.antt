use Rattle.std.proofs.Common.{◌<◌, ◌≤◌, get_or, subst, arith}
use Rattle.ip_blocks.specs.declared.block.Block.{Block}
use Rattle.route_table.proofs.Painting.{begins, stops, none_later}
use Rattle.route_table.proofs.paint.paint.Goals as goal

pub loop-at-init : goal.loop-at-init
loop-at-init c =
    let bounds = c.args.bounds.now in
    begins c.args.routes.now bounds c.args.place c.args.best.now.items c.first_from-first.result c.requires.best
    (λ k less within. subst (λ (b : Block). get_or bounds k 0 < b.base) c.block_at-block.ensures (c.first_from-first.ensures.before k less))

pub returns-then-not-is_held : goal.returns-then-not-is_held
returns-then-not-is_held c =
    let bounds = c.args.bounds.now in
    let begun = subst (λ (b : Block). b.base ≤ get_or bounds c.loop-at.at 0) c.block_at-block.ensures (c.first_from-first.ensures.behind c.loop-at.at (omega arith) (omega arith)) in
    stops c.args.routes.now bounds c.args.place c.loop-at.best.items c.loop-at.at c.loop-at.invariant
    (none_later c.args.routes.now bounds c.args.place c.requires.rising c.loop-at.at begun (c.if-not-is_held.ensures))
