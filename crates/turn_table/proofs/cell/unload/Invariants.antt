use Rattle.std.proofs.Common.{◌≡◌, ℕ, ◌≤◌, ◌<◌, ◌⊎◌, true, false, get_or, vec_len, vec_capacity}
use Rattle.std.specs.Slots.{slots_items, slots_filled, slots_len}
use Rattle.turn_table.specs.Cells.{StandIn}
use Rattle.turn_table.proofs.cell.unload.Given as goal

abbrev pub invariant-loop-p : goal.invariant-loop-p
invariant-loop-p g l = record {
  items : slots_items l.closed.slots ≡ slots_items l.fn.closed.slots;
  len : slots_len l.closed.slots ≡ slots_len l.fn.closed.slots;
  taken : (k : ℕ) → (k < l.p) ⊎ (k ≡ l.places) → get_or (slots_filled l.closed.slots) k false ≡ false;
  left : (k : ℕ) → l.p ≤ k → k < l.places → get_or (slots_filled l.closed.slots) k false ≡ true;
  count : vec_len l.room ≡ l.p;
  space : l.places ≤ vec_capacity l.room;
  values : StandIn (slots_items l.fn.closed.slots) l.room.items;
}
