use Rattle.std.proofs.Common.{ℕ, List, [], refl, ap, sym, ◌∙◌}
use Rattle.net_graph.specs.Steps.{walked, empty}
use Rattle.net_graph.specs.Visits.{top_net, net_parts, walk}
use Rattle.net_graph.proofs.Exits.{exit, later}
use Rattle.net_graph.specs.WalkedNets.{seen_by}
use Rattle.net_graph.proofs.AllSeen.{walk_is}
use Rattle.net_graph.proofs.Walks.{met_more}
use Rattle.net_graph.proofs.walk.walk_over.Goals as goal

pub returns-in_err-parts-clause-cause : goal.returns-in_err-parts-clause-cause
returns-in_err-parts-clause-cause c =
    let f = c.args.frequency in let x = c.args.tree.now in let fault = c.in_err-parts.field-0.0 in let mid = c.in_ok-seen.seen in
    exit (seen_by f (walk f x)) c.from_residual-in_err-parts.result fault c.from_residual-in_err-parts.ensures.1
    (later (λ e. sym (walk_is f (walk f x)) ∙ (met_more f empty mid top_net (net_parts f [] 0 x) refl c.in_ok-seen.ensures.top
    ∙ (ap (λ (n : List ℕ). walked f mid (net_parts f n 0 x)) (sym c.top-path.ensures) ∙ e))) c.in_err-parts.ensures.cause)

pub returns-clause-seen : goal.returns-clause-seen
returns-clause-seen c =
    let f = c.args.frequency in let x = c.args.tree.now in let mid = c.in_ok-seen.seen in
    sym (walk_is f (walk f x))
    ∙ (met_more f empty mid top_net (net_parts f [] 0 x) refl c.in_ok-seen.ensures.top
    ∙ (ap (λ (n : List ℕ). walked f mid (net_parts f n 0 x)) (sym c.top-path.ensures) ∙ c.in_ok-parts.ensures.walked))
