use Rattle.std.proofs.Common.{◌≡◌, ◌++◌, ◌∷◌, [], length, reverse, vec_len, vec_capacity, sym, ap, ◌∙◌, append-nil, append_assoc, arith}
use Rattle.turn_table.specs.declared.cell.Cell.TheVariants.{Room}
use Rattle.turn_table.specs.Cells.{valued, values_in}
use Rattle.turn_table.proofs.CellLists.{bare, same_snoc, values-valued, length-valued, valued_snoc, values-snoc, reverse-snoc}
use Rattle.turn_table.proofs.Hands.{same_room}
use Rattle.turn_table.proofs.cell.empty.Goals as goal

pub loop-cell-init : goal.loop-cell-init
loop-cell-init g c =
    let given = c.requires in
    let t = same_snoc (valued (values_in c.args.cells.items)) c.pop.new.self.items (Room given.room) c.in-Some.last (sym given.same ∙ c.in-Some.ensures.items) in
    let cells : c.pop.new.self.items ≡ valued (values_in c.args.cells.items) = sym t.0 in
    let values : values_in c.pop.new.self.items ≡ values_in c.args.cells.items = ap values_in cells ∙ values-valued (values_in c.args.cells.items) in
    let room : given.room ≡ c.into_room-room.result = same_room given.room c.into_room-room.result (t.1 ∙ c.into_room-room.ensures) in
    let none : c.into_room-room.result.items ≡ [] = bare c.into_room-room.result.items (let o = c.into_room-room.result.ok.0 in let z = given.bare in let l : vec_len given.room ≡ vec_len c.into_room-room.result = ap vec_len room in omega arith) in
    record {
      cells = cells ∙ ap valued (sym values);
      values = ap (λ l. values_in c.pop.new.self.items ++ reverse l) none ∙ append-nil (values_in c.pop.new.self.items) ∙ values;
      space = (let o = c.pop.new.self.ok.0 in let l : length c.pop.new.self.items ≡ length (valued (values_in c.args.cells.items)) = ap length cells in let lv = length-valued (values_in c.args.cells.items) in
          let wide = given.wide in let z = given.bare in let a : vec_len given.room ≡ vec_len c.into_room-room.result = ap vec_len room in let b : vec_capacity given.room ≡ vec_capacity c.into_room-room.result = ap vec_capacity room in omega arith);
    }

pub into_value-requires : goal.into_value-requires
into_value-requires g c = (valued_snoc c.loop-cell.cells.items c.pop-in-loop-cell.new.self.items c.in-Some-pop.cell c.loop-cell.invariant.cells c.in-Some-pop.ensures.items).1

pub loop-cell-preserved : goal.loop-cell-preserved
loop-cell-preserved g c =
    let inv = c.loop-cell.invariant in let new = c.pop-in-loop-cell.new.self.items in let x = c.into_value.result in
    let split = valued_snoc c.loop-cell.cells.items new c.in-Some-pop.cell inv.cells c.in-Some-pop.ensures.items in
    let was : values_in c.loop-cell.cells.items ≡ values_in new ++ x ∷ [] = ap values_in (c.in-Some-pop.ensures.items ∙ ap (λ k. new ++ k ∷ []) c.into_value.ensures) ∙ values-snoc new x in
    record {
      cells = split.0;
      values = ap (λ l. values_in new ++ l) (reverse-snoc c.push_reserved.new.self.items c.loop-cell.room.items x c.push_reserved.ensures.items)
          ∙ sym (append_assoc (values_in new) (x ∷ []) (reverse c.loop-cell.room.items)) ∙ ap (λ l. l ++ reverse c.loop-cell.room.items) (sym was) ∙ inv.values;
      space = (let s = inv.space in let a = c.push_reserved.ensures.len in let b = c.push_reserved.ensures.capacity in let d = c.in-Some-pop.ensures.cases in omega arith);
    }
