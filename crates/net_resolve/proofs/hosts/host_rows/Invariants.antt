use Rattle.std.proofs.Common.{◌≡◌, drop, length}
use Rattle.net_graph.specs.NetworkOf.{attachments, host_rows}
use Rattle.net_resolve.proofs.Turns.{onto}
use Rattle.net_resolve.proofs.hosts.host_rows.Given as goal

abbrev pub invariant-loop-host : goal.invariant-loop-host
invariant-loop-host l = record {
  rows : host_rows l.frequency l.found (attachments l.found) 0 l.found.hosts ≡
      onto l.rows.items (host_rows l.frequency l.found (attachments l.found) (length l.rows.items) (drop l.host-index l.host-items));
  index : length l.rows.items ≡ l.host-index;
}
