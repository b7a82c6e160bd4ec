use Rattle.timeline_tests.proofs.Tame.{tame_handed}
use Rattle.timeline_tests.proofs.node.Node.outbox.Goals as goal

pub invariant_of-self : goal.invariant_of-self
invariant_of-self c = tame_handed c.self.inside.number c.args.channel c.outbox.result c.self.inside.timeline c.outbox.new.self c.self.invariant c.outbox.ensures.posted
