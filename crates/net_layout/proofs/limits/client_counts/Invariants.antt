use Rattle.std.proofs.Common.{length, take}
use Rattle.net_graph.specs.declared.rows.SessionRow.{SessionRow}
use Rattle.net_layout.specs.Wiring.{is_client}
use Rattle.net_layout.proofs.Counting.{AreCounts}
use Rattle.net_layout.proofs.limits.client_counts.Given as goal

abbrev pub invariant-loop-session : goal.invariant-loop-session
invariant-loop-session l = AreCounts is_client (λ (s : SessionRow). s.host) (length l.network.hosts) (take l.session-index l.network.sessions) l.counts.items
