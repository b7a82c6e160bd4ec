use Rattle.std.proofs.Common.{rules}
use Rattle.timeline_tests.proofs.Tame.{is_part, tame_first}
use Rattle.timeline_tests.proofs.node.Node.new.Goals as goal

pub new-requires-clause-part : goal.new-requires-clause-part
new-requires-clause-part c κs =
    is_part c.args.number c.args.ins.now c.args.outs.now c.in-Ok.part c.in-Ok.ensures
    (c.rise.ensures (search (rules, c.if-not-rise.false))) (c.rise-else-not-rise.ensures (search (rules, c.if-not-rise-2.false)))

pub invariant_of-result : goal.invariant_of-result
invariant_of-result c =
    tame_first c.args.number c.args.ins.now c.args.outs.now c.in-Ok.part c.args.until c.args.budget c.in-Ok-new.timeline c.in-Ok.ensures c.in-Ok-new.ensures.first
