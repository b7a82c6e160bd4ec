use Rattle.std.proofs.Common.{◌≡◌, ℕ, ◌+◌, length, arith, sym, List, Option, None, drop, get_or, replicate, ap, ◌∙◌}
use Rattle.std.proofs.lemmas.List.{drop_all, drop_more, with_items_is}
use Rattle.net_graph.specs.declared.rows.InterfaceRow.{InterfaceRow}
use Rattle.net_graph.specs.Networks.{no_interface}
use Rattle.net_resolve.specs.Tables.{noted, firsts_after}
use Rattle.net_resolve.proofs.Firsts.{note_turn, note_end}
use Rattle.net_resolve.proofs.found.first_interfaces.Goals as goal

pub loop-number-preserved : goal.loop-number-preserved
loop-number-preserved c =
    let rows = c.args.rows.now in let i = c.loop-number.number in let row : InterfaceRow = get_or rows i no_interface in
    let kept : length c.note.new.firsts ≡ c.loop-number.firsts.len = omega (arith, c.note.auto.firsts, c.as_mut_slice.ensures.len) in
    note_turn (firsts_after (replicate c.args.hosts None) 0 rows) c.loop-number.firsts.items c.note.new.firsts i (drop i rows) (drop (i + 1) rows) row
    c.loop-number.invariant (drop_more rows i no_interface c.loop-number-test.true)
    (c.note.ensures ∙ ap (λ (t : List (Option ℕ)). noted t row.host i) c.as_mut_slice.ensures.value)
    ∙ ap (λ (t : List (Option ℕ)). firsts_after t (i + 1) (drop (i + 1) rows)) (sym (with_items_is c.loop-number.firsts c.note.new.firsts kept))

pub returns-clause-firsts : goal.returns-clause-firsts
returns-clause-firsts c =
    let rows = c.args.rows.now in let i = c.loop-number.number in
    note_end (firsts_after (replicate c.args.hosts None) 0 rows) c.loop-number.firsts.items i (drop i rows) c.loop-number.invariant (drop_all i rows c.loop-number-test.false)
