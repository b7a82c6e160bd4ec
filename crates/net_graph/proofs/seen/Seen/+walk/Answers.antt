use Rattle.std.proofs.Common.{ℕ, List, [], ◌∷◌, ◌++◌, ◌+◌, ◌-◌, refl, ap, sym, ◌∙◌, arith, rules}
use Rattle.std.specs.List.{flat_map}
use Rattle.net_graph.specs.Steps.{walked, value_visits}
use Rattle.net_graph.specs.Visits.{nested_net, net_parts, net_copy, net_visits, other_visits, ids_in}
use Rattle.net_graph.proofs.Exits.{exit, later}
use Rattle.net_graph.proofs.Walks.{parts_of, parts_are, part_turn, part_stop, part_done, net_ok, net_no_ids, ids_turn, ids_stop, ids_done, met_fault, met_more, done, walked_kids, item_lighter}
use Rattle.net_graph.proofs.seen.Seen.+walk.Goals as goal

pub part-returns-in-Plain-clause-walked : goal.part-returns-in-Plain-clause-walked
part-returns-in-Plain-clause-walked t c =
    let f = c.args.frequency in let w = c.args.self.now in let x = c.args.attribute.now in let vs = value_visits f c.args.path.now c.args.order x.key x.value in
    done f (walked f w vs) w vs refl (ap (value_visits f c.args.path.now c.args.order x.key) c.in-Plain.is)

pub part-returns-clause-kids : goal.part-returns-clause-kids
part-returns-clause-kids t c =
    let more = walked_kids c.args.frequency c.args.self.now c.other_part.new.self (other_visits c.args.frequency c.args.path.now c.args.attribute.now.key c.in-List.list) c.in_ok-other_part.ensures.walked in
    omega arith

pub parts-part-requires : goal.parts-part-requires
parts-part-requires t c =
    let lighter = item_lighter c.args.tree.now c.attributes-attribute-items.result.now c.loop-attribute.attribute-index c.attribute-item.result c.attributes-attribute-items.ensures c.loop-attribute-test.true c.attribute-item.is in
    (omega (arith, lighter, c.decreases), search rules)

pub parts-loop-attribute-init : goal.parts-loop-attribute-init
parts-loop-attribute-init t c =
    let f = c.args.frequency in let n = c.args.path.now in
    record {
      walk = ap (walked f c.args.self.now) (parts_are f n 0 c.args.tree.now ∙ ap (parts_of f n 0) (sym c.attributes-attribute-items.ensures));
      few = c.requires.few;
      order = omega arith;
    }

pub parts-returns-in_err-order-clause-cause : goal.parts-returns-in_err-order-clause-cause
parts-returns-in_err-order-clause-cause t c =
    let f = c.args.frequency in let n = c.args.path.now in let whole = walked f c.args.self.now (net_parts f n 0 c.args.tree.now) in let fault = c.in_err-order.field-0.0 in
    exit whole c.from_residual.result fault c.from_residual.ensures.1
    (later (λ e. part_stop f whole c.loop-attribute.self fault n c.loop-attribute.order c.attributes-attribute-items.result.now c.loop-attribute.attribute-index c.attribute-item.result
    c.loop-attribute.invariant.walk c.loop-attribute-test.true c.attribute-item.is e) c.in_err-order.ensures.cause)

pub parts-loop-attribute-preserved : goal.parts-loop-attribute-preserved
parts-loop-attribute-preserved t c =
    let f = c.args.frequency in let n = c.args.path.now in let whole = walked f c.args.self.now (net_parts f n 0 c.args.tree.now) in
    record {
      walk = part_turn f whole c.loop-attribute.self c.part.new.self n c.loop-attribute.order c.attributes-attribute-items.result.now c.loop-attribute.attribute-index c.attribute-item.result _
          c.loop-attribute.invariant.walk c.loop-attribute-test.true c.attribute-item.is c.in_ok-order.ensures.order c.in_ok-order.ensures.walked;
      few = c.in_ok-order.ensures.few;
      order = c.in_ok-order.ensures.kids;
    }

pub parts-returns-clause-walked : goal.parts-returns-clause-walked
parts-returns-clause-walked t c =
    let f = c.args.frequency in let n = c.args.path.now in let whole = walked f c.args.self.now (net_parts f n 0 c.args.tree.now) in
    part_done f whole c.loop-attribute.self n c.loop-attribute.order c.attributes-attribute-items.result.now c.loop-attribute.attribute-index c.loop-attribute.invariant.walk c.loop-attribute-test.false

pub net_copy-returns-in_err-path-clause-cause : goal.net_copy-returns-in_err-path-clause-cause
net_copy-returns-in_err-path-clause-cause t c =
    let f = c.args.frequency in let w = c.args.self.now in let p = c.args.parent.now in let id = c.args.id in let o = c.args.order + (id - c.args.first) in let x = c.args.list.now in let fault = c.in_err-path.field-0.0 in
    exit (walked f w (nested_net p id o ∷ net_parts f (p ++ id ∷ []) 0 x)) c.from_residual.result fault c.from_residual.ensures.1
    (later (λ e. met_fault f w (nested_net p id o) (net_parts f (p ++ id ∷ []) 0 x) fault e) c.in_err-path.ensures.cause)

pub net_copy-returns-in_err-parts-clause-cause : goal.net_copy-returns-in_err-parts-clause-cause
net_copy-returns-in_err-parts-clause-cause t c =
    let f = c.args.frequency in let w = c.args.self.now in let p = c.args.parent.now in let id = c.args.id in let o = c.args.order + (id - c.args.first) in let x = c.args.list.now in let fault = c.in_err-parts.field-0.0 in
    let mid = c.add_net.new.self in
    exit (walked f w (nested_net p id o ∷ net_parts f (p ++ id ∷ []) 0 x)) c.from_residual-in_err-parts.result fault c.from_residual-in_err-parts.ensures.1
    (later (λ e. met_more f w mid (nested_net p id o) (net_parts f (p ++ id ∷ []) 0 x) c.in_ok-path.ensures.fine c.in_ok-path.ensures.added
    ∙ (ap (λ (n : List ℕ). walked f mid (net_parts f n 0 x)) (sym c.in_ok-path.ensures.ids) ∙ e)) c.in_err-parts.ensures.cause)

pub net_copy-returns-clause-walked : goal.net_copy-returns-clause-walked
net_copy-returns-clause-walked t c =
    let f = c.args.frequency in let w = c.args.self.now in let p = c.args.parent.now in let id = c.args.id in let o = c.args.order + (id - c.args.first) in let x = c.args.list.now in
    let mid = c.add_net.new.self in
    met_more f w mid (nested_net p id o) (net_parts f (p ++ id ∷ []) 0 x) c.in_ok-path.ensures.fine c.in_ok-path.ensures.added
    ∙ (ap (λ (n : List ℕ). walked f mid (net_parts f n 0 x)) (sym c.in_ok-path.ensures.ids) ∙ c.in_ok-parts.ensures.walked)

pub net_copy-returns-clause-kids : goal.net_copy-returns-clause-kids
net_copy-returns-clause-kids t c =
    let more = walked_kids c.args.frequency c.add_net.new.self c.parts.new.self (net_parts c.args.frequency c.in_ok-path.path 0 c.args.list.now) c.in_ok-parts.ensures.walked in
    omega (arith, more, c.in_ok-path.ensures.kids)

pub nested-returns-in_err-ids-clause-cause : goal.nested-returns-in_err-ids-clause-cause
nested-returns-in_err-ids-clause-cause t c =
    let f = c.args.frequency in let w = c.args.self.now in let p = c.args.parent.now in let o = c.args.order in let x = c.args.list.now in let fault = c.in_err-ids.field-0.0 in
    exit (walked f w (net_visits p o x (λ ids. net_parts f ids 0 x))) c.from_residual.result fault c.from_residual.ensures.1
    (later (λ e. net_no_ids f w p o x (λ ids. net_parts f ids 0 x) fault e) c.in_err-ids.ensures.cause)

pub nested-net_copy-requires : goal.nested-net_copy-requires
nested-net_copy-requires t c = (omega (arith, c.decreases), search rules)

pub nested-returns-in_err-net_copy-clause-cause : goal.nested-returns-in_err-net_copy-clause-cause
nested-returns-in_err-net_copy-clause-cause t c =
    let f = c.args.frequency in let w = c.args.self.now in let p = c.args.parent.now in let o = c.args.order in let x = c.args.list.now in let fault = c.in_err-net_copy.field-0.0 in
    let ids = c.in_ok-ids.ids in let g = net_copy p (λ n. net_parts f n 0 x) o ids.from in
    exit (walked f w (net_visits p o x (λ ids. net_parts f ids 0 x))) c.from_residual-in_err-net_copy.result fault c.from_residual-in_err-net_copy.ensures.1
    (later (λ e. net_ok f w p o x (λ n. net_parts f n 0 x) ids c.in_ok-ids.ensures.read
    ∙ ids_stop f (walked f w (flat_map g (ids_in ids))) c.loop-id.self fault g c.loop-id.id (ids.to + 1) c.loop-id.invariant.walk c.loop-id-test.true e) c.in_err-net_copy.ensures.cause)

pub nested-loop-id-preserved : goal.nested-loop-id-preserved
nested-loop-id-preserved t c =
    let f = c.args.frequency in let w = c.args.self.now in let p = c.args.parent.now in let o = c.args.order in let x = c.args.list.now in
    let ids = c.in_ok-ids.ids in let g = net_copy p (λ n. net_parts f n 0 x) o ids.from in
    record {
      walk = ids_turn f (walked f w (flat_map g (ids_in ids))) c.loop-id.self c.net_copy.new.self g c.loop-id.id (ids.to + 1) c.loop-id.invariant.walk c.loop-id-test.true c.in_ok-net_copy.ensures.walked;
      few = c.in_ok-net_copy.ensures.few;
      order = omega (arith, c.in_ok-net_copy.ensures.kids, c.loop-id.invariant.order, c.loop-id.invariant.from);
      end = refl;
      from = omega (arith, c.loop-id.invariant.from);
    }

pub nested-returns-clause-walked : goal.nested-returns-clause-walked
nested-returns-clause-walked t c =
    let f = c.args.frequency in let w = c.args.self.now in let p = c.args.parent.now in let o = c.args.order in let x = c.args.list.now in
    let ids = c.in_ok-ids.ids in let g = net_copy p (λ n. net_parts f n 0 x) o ids.from in
    net_ok f w p o x (λ n. net_parts f n 0 x) ids c.in_ok-ids.ensures.read
    ∙ ids_done f (walked f w (flat_map g (ids_in ids))) c.loop-id.self g c.loop-id.id (ids.to + 1) c.loop-id.invariant.walk c.loop-id-test.false
