use Rattle.std.proofs.Common.{◌≡◌, ◌+◌, ◌++◌, map, drop, length}
use Rattle.net_graph.specs.NetworkOf.{attachments_of}
use Rattle.net_resolve.specs.Tables.{put_all, taken, interface_of}
use Rattle.net_resolve.proofs.links.attach.Given as goal

abbrev pub invariant-loop-nhi : goal.invariant-loop-nhi
invariant-loop-nhi l = record {
  put : put_all l.initial.places (attachments_of l.found l.number l.link.path 0 l.link.keys.attached) ≡
      put_all l.places (attachments_of l.found l.number l.link.path (length l.attached.items) (drop l.nhi-index l.nhi-items));
  numbers : map interface_of (attachments_of l.found l.number l.link.path 0 l.link.keys.attached) ≡
      l.attached.items ++ map interface_of (attachments_of l.found l.number l.link.path (length l.attached.items) (drop l.nhi-index l.nhi-items));
  taken : taken l.places ≡ taken l.initial.places + length l.attached.items;
  long : length l.places ≡ length l.initial.places;
}
