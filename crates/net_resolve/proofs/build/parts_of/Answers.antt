use Rattle.std.proofs.Common.{◌≡◌, ℕ, length, replicate, None, arith, ap, sym, ◌∙◌, subst}
use Rattle.std.proofs.lemmas.List.{with_items_is}
use Rattle.net_graph.specs.declared.seen.Seen.{Seen}
use Rattle.net_graph.specs.NetworkOf.{attachments, rows_of}
use Rattle.net_resolve.specs.Tables.{Places, IsTable}
use Rattle.net_resolve.proofs.Attaching.{seen_attached, seen_stopped}
use Rattle.net_resolve.proofs.Rows.{rows_stop, parts_end, parts_stop}
use Rattle.net_resolve.proofs.Turns.{exit, later}
use Rattle.net_resolve.proofs.build.parts_of.Goals as goal

abbrev none : ℕ → Places
none n = replicate n None

pub returns-in_err-links-clause-cause : goal.returns-in_err-links-clause-cause
returns-in_err-links-clause-cause c =
    let f = c.args.frequency in let found = c.args.found.now in let p = c.as_mut_slice.result.now in let fault = c.in_err-links.field-0.0 in
    let is : p ≡ none (length found.interfaces) =
    c.as_mut_slice.ensures.value ∙ (c.in_ok-places.ensures.none ∙ ap none (c.len.ensures ∙ ap (λ (w : Seen). length w.interfaces) c.seen.ensures.seen)) in
    exit (rows_of f found) c.from_residual-in_err-links.result fault c.from_residual-in_err-links.ensures.1
    (later (λ e. rows_stop f found fault (seen_stopped found p fault c.seen.ensures.few.rows is e)) c.in_err-links.ensures.cause)

pub parts_with-requires-clause-table : goal.parts_with-requires-clause-table
parts_with-requires-clause-table c =
    let found = c.args.found.now in let p = c.as_mut_slice.result.now in let q = c.attach_all.new.places in
    let is : p ≡ none (length found.interfaces) =
    c.as_mut_slice.ensures.value ∙ (c.in_ok-places.ensures.none ∙ ap none (c.len.ensures ∙ ap (λ (w : Seen). length w.interfaces) c.seen.ensures.seen)) in
    let kept : length q ≡ c.in_ok-places.places.len = omega (arith, c.attach_all.auto.places, c.as_mut_slice.ensures.len) in
    let same : c.as_slice.result.now ≡ q = c.as_slice.ensures.value ∙ with_items_is c.in_ok-places.places q kept in
    subst (λ (t : Places). IsTable (attachments found) t) (sym same) (seen_attached found p q c.seen.ensures.few.rows is c.in_ok-links.ensures.put).table

pub returns-clause-parts : goal.returns-clause-parts
returns-clause-parts c =
    let found = c.args.found.now in let p = c.as_mut_slice.result.now in let q = c.attach_all.new.places in
    let is : p ≡ none (length found.interfaces) =
    c.as_mut_slice.ensures.value ∙ (c.in_ok-places.ensures.none ∙ ap none (c.len.ensures ∙ ap (λ (w : Seen). length w.interfaces) c.seen.ensures.seen)) in
    parts_end c.args.frequency found c.parts_with.result (seen_attached found p q c.seen.ensures.few.rows is c.in_ok-links.ensures.put).fine c.parts_with.ensures.parts

pub returns-clause-cause : goal.returns-clause-cause
returns-clause-cause c =
    let found = c.args.found.now in let p = c.as_mut_slice.result.now in let q = c.attach_all.new.places in
    let is : p ≡ none (length found.interfaces) =
    c.as_mut_slice.ensures.value ∙ (c.in_ok-places.ensures.none ∙ ap none (c.len.ensures ∙ ap (λ (w : Seen). length w.interfaces) c.seen.ensures.seen)) in
    parts_stop c.args.frequency found c.parts_with.result (seen_attached found p q c.seen.ensures.few.rows is c.in_ok-links.ensures.put).fine c.parts_with.ensures.cause
