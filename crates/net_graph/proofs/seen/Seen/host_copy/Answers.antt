use Rattle.std.proofs.Common.{ℕ, List, false, [], ◌∷◌, ◌++◌, ap, sym, ◌∙◌}
use Rattle.net_graph.specs.Steps.{walked}
use Rattle.net_graph.specs.Visits.{a_host, host_copy, host_parts}
use Rattle.net_graph.proofs.Exits.{exit, later}
use Rattle.net_graph.proofs.Walks.{met_fault, met_more}
use Rattle.net_graph.proofs.seen.Seen.host_copy.Goals as goal

pub returns-in_err-host-clause-cause : goal.returns-in_err-host-clause-cause
returns-in_err-host-clause-cause c =
    let f = c.args.frequency in let w = c.args.self.now in let n = c.args.net.now in let id = c.args.id in let g = c.args.gateway.now in let x = c.args.list.now in let fault = c.in_err-host.field-0.0 in
    exit (walked f w (host_copy f c.args.router n x g id)) c.from_residual.result fault c.from_residual.ensures.1
    (later (λ e. met_fault f w (a_host n id c.args.router g) (host_parts f (n ++ id ∷ []) false x) fault e) c.in_err-host.ensures.cause)

pub returns-in_err-host_parts-clause-cause : goal.returns-in_err-host_parts-clause-cause
returns-in_err-host_parts-clause-cause c =
    let f = c.args.frequency in let w = c.args.self.now in let n = c.args.net.now in let id = c.args.id in let g = c.args.gateway.now in let x = c.args.list.now in let fault = c.in_err-host_parts.field-0.0 in
    let mid = c.add_host.new.self in
    exit (walked f w (host_copy f c.args.router n x g id)) c.from_residual-in_err-host_parts.result fault c.from_residual-in_err-host_parts.ensures.1
    (later (λ e. met_more f w mid (a_host n id c.args.router g) (host_parts f (n ++ id ∷ []) false x) c.in_ok-host.ensures.fine c.in_ok-host.ensures.added
    ∙ (ap (λ (h : List ℕ). walked f mid (host_parts f h false x)) (sym c.in_ok-host.ensures.ids) ∙ e)) c.in_err-host_parts.ensures.cause)

pub returns-clause-walked : goal.returns-clause-walked
returns-clause-walked c =
    let f = c.args.frequency in let w = c.args.self.now in let n = c.args.net.now in let id = c.args.id in let g = c.args.gateway.now in let x = c.args.list.now in
    let mid = c.add_host.new.self in
    met_more f w mid (a_host n id c.args.router g) (host_parts f (n ++ id ∷ []) false x) c.in_ok-host.ensures.fine c.in_ok-host.ensures.added
    ∙ (ap (λ (h : List ℕ). walked f mid (host_parts f h false x)) (sym c.in_ok-host.ensures.ids) ∙ c.in_ok-host_parts.ensures.walked)
