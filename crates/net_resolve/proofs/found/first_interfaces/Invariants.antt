use Rattle.std.proofs.Common.{◌≡◌, None, drop, replicate}
use Rattle.net_resolve.specs.Tables.{firsts_after}
use Rattle.net_resolve.proofs.found.first_interfaces.Given as goal

abbrev pub invariant-loop-number : goal.invariant-loop-number
invariant-loop-number l = firsts_after (replicate l.hosts None) 0 l.rows ≡ firsts_after l.firsts.items l.number (drop l.number l.rows)
