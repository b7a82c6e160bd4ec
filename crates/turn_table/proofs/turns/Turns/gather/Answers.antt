use Rattle.std.proofs.Common.{◌≡◌, length, vec_len, sym, ap, ◌∙◌, arith}
use Rattle.std.specs.Slots.{slots_items, slots_counts}
use Rattle.turn_table.specs.declared.view.View.{View}
use Rattle.turn_table.specs.Passes.{only}
use Rattle.turn_table.proofs.CellLists.{head_of, gathered, gathered_home}
use Rattle.turn_table.proofs.turns.Turns.gather.Goals as goal

pub join_all-requires-clause-words : goal.join_all-requires-clause-words
join_all-requires-clause-words g c = let ok = c.args.passes.ok.0 in let s = c.requires.seats in
    let w = (c.requires.passes 0 (head_of c.args.passes.items (omega arith)) (omega arith)).0.words in omega arith

pub unload-requires-clause-cells : goal.unload-requires-clause-cells
unload-requires-clause-cells g c =
    let key = c.args.self.board.table.shared.key in let v0 = c.into_seat-seat.result.me.0 in
    let seen : only c.args.self.root.views ≡ v0 = ap only c.into_seat-seat.ensures.2 in
    let b0 : length v0.back ≡ 0 = ap (λ (v : View). length v.back) (sym seen) ∙ c.args.self.back in
    let m0 : v0.made ≡ vec_len c.args.passes = ap (λ (v : View). v.made) (sym seen) ∙ c.requires.all in
    let j = c.join_all.ensures in
    gathered g.V.Tenant key c.join_all.new.root.id c.join_all.new.root.me.0 (slots_items c.close_with.result.words) (slots_items c.close_with.result.slots) c.close_with.ensures.values.2 j.root.0
    (let b = j.back in let m = j.root.2 in omega (arith, b0, m0)) c.args.self.board.places
    (let n = (slots_counts c.close_with.result.slots).0 in let k = c.close_with.ensures.counts.1 in let s = c.args.self.board.slots in omega (arith, n, k, s))

pub returns : goal.returns
returns g c =
    let key = c.args.self.board.table.shared.key in let v0 = c.into_seat-seat.result.me.0 in
    let seen : only c.args.self.root.views ≡ v0 = ap only c.into_seat-seat.ensures.2 in
    let b0 : length v0.back ≡ 0 = ap (λ (v : View). length v.back) (sym seen) ∙ c.args.self.back in
    let m0 : v0.made ≡ vec_len c.args.passes = ap (λ (v : View). v.made) (sym seen) ∙ c.requires.all in
    let j = c.join_all.ensures in
    gathered_home g.V.Tenant key c.join_all.new.root.id c.join_all.new.root.me.0 (slots_items c.close_with.result.words) (slots_items c.close_with.result.slots) c.close_with.ensures.values.2 j.root.0
    (let b = j.back in let m = j.root.2 in omega (arith, b0, m0)) c.args.self.board.places
    (let n = (slots_counts c.close_with.result.slots).0 in let k = c.close_with.ensures.counts.1 in let s = c.args.self.board.slots in omega (arith, n, k, s))
    c.unload.result.items c.unload.ensures.values (let o = c.unload.result.ok.0 in let l = c.unload.ensures.len in omega arith)
