use Rattle.std.proofs.Common.{◌≡◌, ◌≤◌, map, string_bytes, IfSome}
use Rattle.ssfnet_top.specs.FilePlaces.{ArePlaced}
use Rattle.ssfnet_top.proofs.FilesRead.{Decides, Reaches}
use Rattle.ssfnet_top.proofs.files.read_files.Given as goal

abbrev pub invariant-loop-number : goal.invariant-loop-number
invariant-loop-number g l = record {
  later : g.L.Library.faults l.fn.library ≤ g.L.Library.faults l.library;
  same : g.L.Library.files l.library ≡ g.L.Library.files l.fn.library;
  placed : ArePlaced (map string_bytes l.names) l.root;
  told : IfSome (g.L.Library.files l.fn.library) (λ told. Decides told l.names l.number l.root);
  reached : IfSome (g.L.Library.files l.fn.library) (λ told. Reaches told l.names l.number);
}
