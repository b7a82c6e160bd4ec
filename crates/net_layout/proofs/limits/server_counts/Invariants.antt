use Rattle.std.proofs.Common.{length, take, true}
use Rattle.sim_base.specs.declared.records.ServerRow.{ServerRow}
use Rattle.net_layout.proofs.Counting.{AreCounts}
use Rattle.net_layout.proofs.limits.server_counts.Given as goal

abbrev pub invariant-loop-server : goal.invariant-loop-server
invariant-loop-server l = AreCounts (λ (s : ServerRow). true) (λ (s : ServerRow). s.client) (length l.network.hosts) (take l.server-index l.network.servers) l.counts.items
