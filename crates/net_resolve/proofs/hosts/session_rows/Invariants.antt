use Rattle.std.proofs.Common.{◌≡◌, ◌++◌, map, drop}
use Rattle.net_graph.specs.NetworkOf.{session_row}
use Rattle.net_resolve.proofs.hosts.session_rows.Given as goal

abbrev pub invariant-loop-session : goal.invariant-loop-session
invariant-loop-session l = map session_row l.seen ≡ l.rows.items ++ map session_row (drop l.session-index l.seen)
