use Rattle.std.proofs.Common.{◌≡◌, ℕ, ◌+◌, List, [], ◌∷◌, length, drop, Ok, arith, ap, sym, ◌∙◌, length-append}
use Rattle.std.proofs.lemmas.List.{drop_all}
use Rattle.net_graph.specs.declared.rows.LinkRow.{LinkRow}
use Rattle.net_graph.specs.NetworkOf.{attachments, attachments_of, attachments_from}
use Rattle.net_resolve.specs.Tables.{link_row, put_all, link_rows_from}
use Rattle.net_resolve.proofs.Attaching.{links_turn, links_stop, links_end}
use Rattle.net_resolve.proofs.LinkRows.{rows_turn, rows_end}
use Rattle.net_resolve.proofs.Turns.{drop_item, exit, later}
use Rattle.net_resolve.proofs.links.attach_all.Goals as goal

pub returns-in_err-row-clause-cause : goal.returns-in_err-row-clause-cause
returns-in_err-row-clause-cause c =
    let seen = c.args.found.now in let whole = put_all c.args.places.now (attachments seen) in
    let ls = c.as_slice-link-items.result.now in let i = c.loop-link.link-index in let l = c.link-item.result in
    let p = c.loop-link.places in let n = length c.loop-link.rows.items in let fault = c.in_err-row.field-0.0 in
    let at : c.len-number.result ≡ n = omega (arith, c.len-number.ensures, c.loop-link.rows.ok.0) in
    exit whole c.from_residual.result fault c.from_residual.ensures.1
    (later (λ e. links_stop seen whole p n (drop i ls) (drop (i + 1) ls) l fault c.loop-link.invariant.put (drop_item ls i l c.loop-link-test.true c.link-item.is)
    (ap (λ (k : ℕ). put_all p (attachments_of seen k l.path 0 l.keys.attached)) (sym at) ∙ e)) c.in_err-row.ensures.cause)

pub loop-link-preserved : goal.loop-link-preserved
loop-link-preserved c =
    let seen = c.args.found.now in let whole = put_all c.args.places.now (attachments seen) in
    let ls = c.as_slice-link-items.result.now in let i = c.loop-link.link-index in let l = c.link-item.result in
    let p = c.loop-link.places in let q = c.attached_link.new.places in let before = c.loop-link.rows.items in let after = c.push.new.self.items in let n = length before in let row = c.in_ok-row.row in
    let at : c.len-number.result ≡ n = omega (arith, c.len-number.ensures, c.loop-link.rows.ok.0) in
    let is = drop_item ls i l c.loop-link-test.true c.link-item.is in
    let here : put_all p (attachments_of seen n l.path 0 l.keys.attached) ≡ Ok q = ap (λ (k : ℕ). put_all p (attachments_of seen k l.path 0 l.keys.attached)) (sym at) ∙ c.in_ok-row.ensures.put in
    let made : row ≡ link_row seen n l = c.in_ok-row.ensures.row ∙ ap (λ (k : ℕ). link_row seen k l) at in
    let longer : length after ≡ n + 1 = ap (λ (x : List LinkRow). length x) c.in_ok-push.ensures.items ∙ length-append before (row ∷ []) in
    record {
      put = links_turn seen whole p q n (drop i ls) (drop (i + 1) ls) l c.loop-link.invariant.put is here ∙ ap (λ (k : ℕ). put_all q (attachments_from seen k (drop (i + 1) ls))) (sym longer);
      rows = rows_turn seen (link_rows_from seen 0 seen.links) before after (drop i ls) (drop (i + 1) ls) l row c.loop-link.invariant.rows is made c.in_ok-push.ensures.items;
      index = omega (arith, longer, c.loop-link.invariant.index);
      long = c.attached_link.ensures.length ∙ c.loop-link.invariant.long;
    }

pub returns-clause-put : goal.returns-clause-put
returns-clause-put c =
    let ls = c.as_slice-link-items.result.now in let i = c.loop-link.link-index in
    links_end c.args.found.now (put_all c.args.places.now (attachments c.args.found.now)) c.loop-link.places (length c.loop-link.rows.items) (drop i ls) c.loop-link.invariant.put (drop_all i ls c.loop-link-test.false)

pub returns-clause-rows : goal.returns-clause-rows
returns-clause-rows c =
    let ls = c.as_slice-link-items.result.now in let i = c.loop-link.link-index in
    rows_end c.args.found.now (link_rows_from c.args.found.now 0 c.args.found.now.links) c.loop-link.rows.items (drop i ls) c.loop-link.invariant.rows (drop_all i ls c.loop-link-test.false)
