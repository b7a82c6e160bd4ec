use Rattle.std.proofs.Common.{◌∙◌, ap, sym, [], ◌∷◌}
use Rattle.net_graph.specs.SeenRows.{link_fault}
use Rattle.net_graph.specs.Steps.{walked, link_many, with_link}
use Rattle.net_graph.specs.Visits.{a_link}
use Rattle.net_graph.proofs.Exits.{exit, later}
use Rattle.net_graph.proofs.Walks.{met_fault, met_one}
use Rattle.net_graph.proofs.seen.Seen.link.Goals as goal

pub returns-in_err-keys-clause-cause : goal.returns-in_err-keys-clause-cause
returns-in_err-keys-clause-cause c =
    let f = c.args.frequency in let w = c.args.self.now in let v = a_link c.args.net.now c.args.order c.args.list.now in let fault = c.in_err-keys.field-0.0 in
    exit (walked f w (v ∷ [])) c.from_residual.result fault c.from_residual.ensures.1
    (later (λ e. met_fault f w v [] fault (ap (λ k. link_fault k (link_many w)) e)) c.in_err-keys.ensures.cause)

pub returns-in_err-add_link-clause-cause : goal.returns-in_err-add_link-clause-cause
returns-in_err-add_link-clause-cause c =
    let f = c.args.frequency in let w = c.args.self.now in let v = a_link c.args.net.now c.args.order c.args.list.now in let fault = c.in_err-add_link.field-0.0 in
    exit (walked f w (v ∷ [])) c.from_residual-in_err-add_link.result fault c.from_residual-in_err-add_link.ensures.1
    (later (λ e. met_fault f w v [] fault (ap (λ k. link_fault k (link_many w)) c.in_ok-keys.ensures.read ∙ e)) c.in_err-add_link.ensures.cause)

pub returns-clause-walked : goal.returns-clause-walked
returns-clause-walked c =
    let f = c.args.frequency in let w = c.args.self.now in let n = c.args.net.now in let order = c.args.order in let v = a_link n order c.args.list.now in
    met_one f w c.add_link.new.self v (ap (λ k. link_fault k (link_many w)) c.in_ok-keys.ensures.read ∙ c.in_ok-add_link.ensures.fine)
    (c.in_ok-add_link.ensures.added ∙ ap (with_link w n order) (sym c.in_ok-keys.ensures.read))
