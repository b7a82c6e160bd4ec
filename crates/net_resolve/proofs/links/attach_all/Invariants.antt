use Rattle.std.proofs.Common.{◌≡◌, ◌++◌, drop, length}
use Rattle.net_graph.specs.NetworkOf.{attachments, attachments_from}
use Rattle.net_resolve.specs.Tables.{put_all, link_rows_from}
use Rattle.net_resolve.proofs.links.attach_all.Given as goal

abbrev pub invariant-loop-link : goal.invariant-loop-link
invariant-loop-link l = record {
  put : put_all l.initial.places (attachments l.found) ≡ put_all l.places (attachments_from l.found (length l.rows.items) (drop l.link-index l.link-items));
  rows : link_rows_from l.found 0 l.found.links ≡ l.rows.items ++ link_rows_from l.found (length l.rows.items) (drop l.link-index l.link-items);
  index : length l.rows.items ≡ l.link-index;
  long : length l.places ≡ length l.initial.places;
}
