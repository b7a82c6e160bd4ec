use Rattle.std.proofs.Common.{◌≡◌, ◌++◌, ◌∷◌, [], reverse, sym, ap, ◌∙◌, append-nil, arith}
use Rattle.turn_table.specs.declared.cell.Cell.TheVariants.{Room}
use Rattle.turn_table.specs.Cells.{valued}
use Rattle.turn_table.proofs.CellLists.{bare}
use Rattle.turn_table.proofs.cell.fill.Goals as goal

pub returns : goal.returns
returns g c =
    let none : c.loop-x.values.items ≡ [] = bare c.loop-x.values.items (let o = c.loop-x.values.ok.0 in let z = c.in_default.ensures.cases.0 in omega arith) in
    let cells : c.loop-x.cells.items ≡ valued c.args.values.items =
    sym (append-nil c.loop-x.cells.items) ∙ ap (λ l. c.loop-x.cells.items ++ valued (reverse l)) (sym none) ∙ c.loop-x.invariant.cells in
    record {
      room = c.pop.new.self;
      same = c.push_reserved-2.ensures.items ∙ ap (λ l. l ++ Room c.pop.new.self ∷ []) cells;
      bare = c.in_default.ensures.cases.1;
      wide = (let k = c.pop.ensures.capacity in let r = c.loop-x.invariant.room in omega arith);
    }
