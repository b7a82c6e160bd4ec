use Rattle.std.proofs.Common.{◌+◌, ◌++◌, replicate, sym, ap, subst, ◌∙◌, arith}
use Rattle.turn_table.specs.Cells.{AreCells, values_in}
use Rattle.turn_table.specs.Shapes.{places_in}
use Rattle.turn_table.proofs.CellLists.{opened, refilled, values_back, length_cells}
use Rattle.turn_table.proofs.turns.Turns.new.Goals as goal

pub new-requires : goal.new-requires
new-requires g c = let ok = c.args.values.ok.0 in let h = c.requires.values.places in
    opened g.V.Tenant c.args.about.now c.args.values.items c.fill.new.cells.items c.as_slice-2.result.now c.args.counts.items c.len-places.result c.fill.ensures
    (c.as_slice-2.ensures.value ∙ c.in-Ok.ensures ∙ ap (λ l. replicate (c.len-places.result + 1) 0 ++ l) c.as_slice.ensures.value)
    (let a = c.len-places.ensures in omega arith) (let k = c.args.counts.ok.0 in let w = c.requires.words in omega arith) c.requires.values

pub empty-requires : goal.empty-requires
empty-requires g c = subst (λ l. AreCells l (values_in l)) (sym c.in-Err.ensures.err) (refilled c.fill.new.cells.items c.args.values.items c.fill.ensures)

pub returns-in-Err-clause-refused : goal.returns-in-Err-clause-refused
returns-in-Err-clause-refused g c = c.empty.ensures ∙ ap values_in c.in-Err.ensures.err ∙ values_back c.fill.new.cells.items c.args.values.items c.fill.ensures

pub split_all-requires-clause-slots : goal.split_all-requires-clause-slots
split_all-requires-clause-slots g c = let e = c.in-Ok-new.ensures.ok in
    e.1 ∙ length_cells c.fill.new.cells.items c.args.values.items (places_in (g.V.Tenant.shape c.args.about.now)) c.fill.ensures c.requires.values.places ∙ ap (λ k. places_in (g.V.Tenant.shape k) + 1) (sym e.5)

pub invariant_of-turns : goal.invariant_of-turns
invariant_of-turns g c = let e = c.in-Ok-new.ensures.ok in let n = c.len-places.ensures in let o = c.args.values.ok.0 in
    record { slots = e.1 ∙ length_cells c.fill.new.cells.items c.args.values.items c.len-places.result c.fill.ensures (omega arith) }
