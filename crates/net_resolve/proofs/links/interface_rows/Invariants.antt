use Rattle.std.proofs.Common.{◌≡◌, ◌++◌, drop, length}
use Rattle.net_resolve.specs.Tables.{placed_rows}
use Rattle.net_resolve.proofs.links.interface_rows.Given as goal

abbrev pub invariant-loop-row : goal.invariant-loop-row
invariant-loop-row l = record {
  rows : placed_rows l.places 0 l.rows ≡ l.placed.items ++ placed_rows l.places (length l.placed.items) (drop l.row-index l.rows);
  index : length l.placed.items ≡ l.row-index;
}
