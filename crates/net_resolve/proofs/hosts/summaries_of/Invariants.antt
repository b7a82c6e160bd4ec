use Rattle.std.proofs.Common.{◌≡◌, drop, replicate}
use Rattle.net_resolve.specs.Tables.{silent, told}
use Rattle.net_resolve.proofs.hosts.summaries_of.Given as goal

abbrev pub invariant-loop-session : goal.invariant-loop-session
invariant-loop-session l = told (replicate l.hosts silent) l.sessions ≡ told l.summaries.items (drop l.session-index l.sessions)
