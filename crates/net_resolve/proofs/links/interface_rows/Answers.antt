use Rattle.std.proofs.Common.{◌≡◌, ℕ, ◌+◌, Option, None, List, [], ◌∷◌, length, drop, get_or, arith, ap, ◌∙◌, length-append}
use Rattle.std.proofs.lemmas.List.{drop_all, drop_more}
use Rattle.net_graph.specs.declared.rows.InterfaceRow.{InterfaceRow}
use Rattle.net_graph.specs.Networks.{no_interface}
use Rattle.net_resolve.specs.Tables.{placed_rows}
use Rattle.net_resolve.proofs.LinkRows.{placed_turn, placed_end}
use Rattle.net_resolve.proofs.links.interface_rows.Goals as goal

pub loop-row-preserved : goal.loop-row-preserved
loop-row-preserved c =
    let places = c.args.places.now in let rows = c.args.rows.now in let i = c.loop-row.row-index in let row : InterfaceRow = get_or rows i no_interface in
    let before = c.loop-row.placed.items in let link = c.place_of-link.result in
    let placed : InterfaceRow = record row { link = link } in
    let at : c.len.result ≡ length before = omega (arith, c.len.ensures, c.loop-row.placed.ok.0) in
    let made : placed ≡ record row { link = get_or places (length before) None } =
    ap (λ (o : Option (ℕ × ℕ)). record row { link = o }) (c.place_of-link.ensures ∙ ap (λ (k : ℕ). get_or places k None) at) in
    let longer : length c.push.new.self.items ≡ length before + 1 = ap (λ (l : List InterfaceRow). length l) c.in_ok-push.ensures.items ∙ length-append before (placed ∷ []) in
    record {
      rows = placed_turn places (placed_rows places 0 rows) before c.push.new.self.items (drop i rows) (drop (i + 1) rows) row placed c.loop-row.invariant.rows (drop_more rows i no_interface c.loop-row-test.true) made c.in_ok-push.ensures.items;
      index = omega (arith, longer, c.loop-row.invariant.index);
    }

pub returns-clause-rows : goal.returns-clause-rows
returns-clause-rows c =
    let rows = c.args.rows.now in let i = c.loop-row.row-index in
    placed_end c.args.places.now (placed_rows c.args.places.now 0 rows) c.loop-row.placed.items (drop i rows) c.loop-row.invariant.rows (drop_all i rows c.loop-row-test.false)
