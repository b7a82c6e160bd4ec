use Rattle.ssf_model.specs.Channels.{sent}
use Rattle.global_list.proofs.Posts.{Partway}
use Rattle.global_list.proofs.agenda.Agenda.post_all.Given as goal

abbrev pub invariant-loop-written : goal.invariant-loop-written
invariant-loop-written g l = Partway l.fn.parent (sent l.fn.fan_out l.fn.entity l.fn.processes) l.fn.writes l.written-index l.fn.self.counts.items l.fn.self.pending l.self.counts.items l.self.pending
