use Rattle.std.proofs.Common.{arith}
use Rattle.pending_queue.proofs.QueueLemmas.{counted}
use Rattle.pending_queue.proofs.pending.Pending.len.Goals as goal

pub returns : goal.returns
returns g c = let all = counted g.T.Keyed.key_of c.self.inside.items.items _ c.args.self.now c.self.view_is in let n = c.self.inside.items.ok.0 in omega (arith, all, n, c.len.ensures)
