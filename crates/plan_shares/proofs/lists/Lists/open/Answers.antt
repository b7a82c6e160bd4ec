use Rattle.plan_shares.proofs.ForEach.{open_more}
use Rattle.plan_shares.proofs.lists.Lists.open.Goals as goal

pub loop-line-preserved : goal.loop-line-preserved
loop-line-preserved g c = open_more c.loop-line._line c.loop-line.self-inside.lists.items c.push.new.self.items c.new.result c.loop-line.invariant c.new.ensures c.in_ok-push.ensures.items
