use Rattle.pending_queue.proofs.QueueLemmas.{rises}
use Rattle.pending_queue.proofs.pending.Pending.keys_rise.Goals as goal

pub returns : goal.returns
returns g c = rises g.T.Keyed.key_of c.self.inside.items.items _ c.args.self.now c.self.invariant c.self.view_is
