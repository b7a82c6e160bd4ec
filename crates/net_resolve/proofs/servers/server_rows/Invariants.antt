use Rattle.std.proofs.Common.{◌≡◌, ◌+◌, drop, length, count_by}
use Rattle.net_graph.specs.NetworkOf.{attachments, server_rows}
use Rattle.net_graph.specs.Steps.{is_server}
use Rattle.net_resolve.proofs.Turns.{onto}
use Rattle.net_resolve.proofs.servers.server_rows.Given as goal

abbrev pub invariant-loop-part : goal.invariant-loop-part
invariant-loop-part l = record {
  rows : server_rows l.found (attachments l.found) 0 l.found.traffic ≡ onto l.rows.items (server_rows l.found (attachments l.found) l.client (drop l.part-index l.part-items));
  count : count_by is_server l.found.traffic ≡ length l.rows.items + count_by is_server (drop l.part-index l.part-items);
}
