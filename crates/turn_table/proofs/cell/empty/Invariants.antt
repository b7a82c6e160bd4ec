use Rattle.std.proofs.Common.{◌≡◌, ◌≤◌, ◌+◌, ◌++◌, reverse, vec_len, vec_capacity}
use Rattle.turn_table.specs.Cells.{valued, values_in}
use Rattle.turn_table.proofs.cell.empty.Given as goal

abbrev pub invariant-loop-cell : goal.invariant-loop-cell
invariant-loop-cell g l = record {
  cells : l.cells.items ≡ valued (values_in l.cells.items);
  values : values_in l.cells.items ++ reverse l.room.items ≡ values_in l.fn.cells.items;
  space : vec_len l.cells + vec_len l.room ≤ vec_capacity l.room;
}

abbrev pub decreases-loop-cell : goal.decreases-loop-cell
decreases-loop-cell g l = vec_len l.cells
