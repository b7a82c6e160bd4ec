use Rattle.std.proofs.Common.{◌≡◌, ℕ, ◌+◌, List, [], ◌∷◌, length, map, drop, Some, Ok, arith, ap, ap₂, sym, ◌∙◌, length-append}
use Rattle.std.proofs.lemmas.List.{drop_all}
use Rattle.nhi_address.specs.NhiFields.{NhiFields}
use Rattle.net_graph.specs.NetworkOf.{attachments_of, full, interface_by_nhi}
use Rattle.net_resolve.specs.Tables.{attachment_to, interface_of, put, put_all}
use Rattle.net_resolve.proofs.Attaching.{attach_turn, attach_stop, attach_end, numbers_turn}
use Rattle.net_resolve.proofs.Turns.{drop_item, exit, later}
use Rattle.net_resolve.proofs.links.attach.Goals as goal

pub returns-in_err-interface-clause-cause : goal.returns-in_err-interface-clause-cause
returns-in_err-interface-clause-cause c =
    let seen = c.args.found.now in let number = c.args.number in let path = c.args.link.now.path in
    let whole = put_all c.args.places.now (attachments_of seen number path 0 c.args.link.now.keys.attached) in
    let nhis = c.as_slice-nhi-items.result.now in let i = c.loop-nhi.nhi-index in let nhi = c.nhi-item.result in
    let p = c.loop-nhi.places in let place = length c.loop-nhi.attached.items in let fault = c.in_err-interface.field-0.0 in
    let at : c.len-place.result ≡ place = omega (arith, c.len-place.ensures, c.loop-nhi.attached.ok.0) in
    exit whole c.from_residual-in_err-interface.result fault c.from_residual-in_err-interface.ensures.1
    (later (λ e. attach_stop seen number path whole p place (drop i nhis) (drop (i + 1) nhis) nhi fault c.loop-nhi.invariant.put (drop_item nhis i nhi c.loop-nhi-test.true c.nhi-item.is)
    (ap₂ (λ (k : ℕ) (w : NhiFields). put p (attachment_to seen number k w)) (sym at) (sym c.in_ok-nhi.ensures) ∙ e)) c.in_err-interface.ensures.cause)

pub loop-nhi-preserved : goal.loop-nhi-preserved
loop-nhi-preserved c =
    let seen = c.args.found.now in let number = c.args.number in let path = c.args.link.now.path in let attached = c.args.link.now.keys.attached in
    let whole = put_all c.args.places.now (attachments_of seen number path 0 attached) in
    let nhis = c.as_slice-nhi-items.result.now in let i = c.loop-nhi.nhi-index in let nhi = c.nhi-item.result in
    let p = c.loop-nhi.places in let q = c.attach_one.new.places in let before = c.loop-nhi.attached.items in let after = c.push.new.self.items in let n = c.in_ok-interface.interface in
    let at : c.len-place.result ≡ length before = omega (arith, c.len-place.ensures, c.loop-nhi.attached.ok.0) in
    let is = drop_item nhis i nhi c.loop-nhi-test.true c.nhi-item.is in
    let here : put p (attachment_to seen number (length before) (full path nhi)) ≡ Ok q =
    ap₂ (λ (k : ℕ) (w : NhiFields). put p (attachment_to seen number k w)) (sym at) (sym c.in_ok-nhi.ensures) ∙ c.in_ok-interface.ensures.put in
    let there : interface_by_nhi seen (full path nhi) nhi.interface ≡ Some n = ap (λ (w : NhiFields). interface_by_nhi seen w w.interface) (sym c.in_ok-nhi.ensures) ∙ c.in_ok-interface.ensures.number in
    let longer : length after ≡ length before + 1 = ap (λ (l : List ℕ). length l) c.in_ok-push.ensures.items ∙ length-append before (n ∷ []) in
    record {
      put = attach_turn seen number path whole p q (length before) (drop i nhis) (drop (i + 1) nhis) nhi c.loop-nhi.invariant.put is here
          ∙ ap (λ (k : ℕ). put_all q (attachments_of seen number path k (drop (i + 1) nhis))) (sym longer);
      numbers = numbers_turn seen number path (map interface_of (attachments_of seen number path 0 attached)) before after (drop i nhis) (drop (i + 1) nhis) nhi n c.loop-nhi.invariant.numbers is there c.in_ok-push.ensures.items;
      taken = omega (arith, longer, c.in_ok-interface.ensures.taken, c.loop-nhi.invariant.taken);
      long = c.attach_one.ensures.length ∙ c.loop-nhi.invariant.long;
    }

pub returns-clause-put : goal.returns-clause-put
returns-clause-put c =
    let nhis = c.as_slice-nhi-items.result.now in let i = c.loop-nhi.nhi-index in
    attach_end c.args.found.now c.args.number c.args.link.now.path (put_all c.args.places.now (attachments_of c.args.found.now c.args.number c.args.link.now.path 0 c.args.link.now.keys.attached)) c.loop-nhi.places (length c.loop-nhi.attached.items) (drop i nhis) c.loop-nhi.invariant.put (drop_all i nhis c.loop-nhi-test.false)
