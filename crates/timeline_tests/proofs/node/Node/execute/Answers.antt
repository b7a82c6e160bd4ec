use Rattle.std.proofs.Common.{rules}
use Rattle.timeline_tests.proofs.Tame.{may_execute, tame_executed}
use Rattle.timeline_tests.proofs.node.Node.execute.Goals as goal

pub execute-requires-after_bounds : goal.execute-requires-after_bounds
execute-requires-after_bounds c κs = λ event rest is none.
    may_execute c.self.inside.number c.self.inside.timeline c.self.invariant (c.is_simple.ensures (search (rules, c.if-not-is_simple.false))) c.keeps_order.ensures event rest is none

pub invariant_of-self : goal.invariant_of-self
invariant_of-self c =
    tame_executed c.self.inside.number c.execute.result c.self.inside.timeline c.execute.new.self c.self.invariant
    (c.is_simple.ensures (search (rules, c.if-not-is_simple.false))) c.execute.ensures.refused c.execute.ensures.ran c.execute.ensures.spent
