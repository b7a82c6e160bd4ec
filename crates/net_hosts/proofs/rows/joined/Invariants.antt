use Rattle.std.proofs.Common.{◌≡◌, ℕ, ◌≤◌, [], map, get_or}
use Rattle.std.specs.List.{range_with_len}
use Rattle.net_hosts.specs.HostRowsOf.{host_rows_of}
use Rattle.net_hosts.specs.Left.{HasParts}
use Rattle.net_hosts.proofs.rows.joined.Given as goal

abbrev pub invariant-loop-host : goal.invariant-loop-host
invariant-loop-host l = record {
  rows : l.rows.items ≡ map (host_rows_of l.network l.initial.parts.tables) (range_with_len 0 l.host);
  parts : HasParts l.network l.host l.parts;
  tables : (k : ℕ) → l.host ≤ k → get_or l.parts.tables k [] ≡ get_or l.initial.parts.tables k [];
}
