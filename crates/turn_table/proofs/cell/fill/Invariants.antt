use Rattle.std.proofs.Common.{◌≡◌, ◌<◌, ◌≤◌, ◌+◌, ◌++◌, length, reverse, vec_len, vec_capacity}
use Rattle.turn_table.specs.Cells.{valued}
use Rattle.turn_table.proofs.cell.fill.Given as goal

abbrev pub invariant-loop-x : goal.invariant-loop-x
invariant-loop-x g l = record {
  cells : l.cells.items ++ valued (reverse l.values.items) ≡ valued l.fn.values.items;
  space : vec_len l.cells + vec_len l.values < vec_capacity l.cells;
  room : length l.fn.values.items ≤ vec_capacity l.values;
}

abbrev pub decreases-loop-x : goal.decreases-loop-x
decreases-loop-x g l = vec_len l.values
