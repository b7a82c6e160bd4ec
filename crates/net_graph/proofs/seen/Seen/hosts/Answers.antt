use Rattle.std.proofs.Common.{◌∙◌}
use Rattle.net_graph.specs.Steps.{walked}
use Rattle.net_graph.specs.Visits.{host_visits}
use Rattle.net_graph.proofs.Exits.{exit, later}
use Rattle.net_graph.proofs.Walks.{host_ok, host_no_ids, host_no_gateway}
use Rattle.net_graph.proofs.seen.Seen.hosts.Goals as goal

pub returns-in_err-ids-clause-cause : goal.returns-in_err-ids-clause-cause
returns-in_err-ids-clause-cause c =
    let f = c.args.frequency in let w = c.args.self.now in let x = c.args.list.now in let fault = c.in_err-ids.field-0.0 in
    exit (walked f w (host_visits f c.args.router c.args.net.now x)) c.from_residual.result fault c.from_residual.ensures.1
    (later (λ e. host_no_ids f w c.args.router c.args.net.now x fault e) c.in_err-ids.ensures.cause)

pub returns-in_err-gateway-clause-cause : goal.returns-in_err-gateway-clause-cause
returns-in_err-gateway-clause-cause c =
    let f = c.args.frequency in let w = c.args.self.now in let x = c.args.list.now in let fault = c.in_err-gateway.field-0.0 in
    exit (walked f w (host_visits f c.args.router c.args.net.now x)) c.from_residual-in_err-gateway.result fault c.from_residual-in_err-gateway.ensures.1
    (later (λ e. host_no_gateway f w c.args.router c.args.net.now x c.in_ok-ids.ids fault c.in_ok-ids.ensures.read e) c.in_err-gateway.ensures.cause)

pub returns-in_err-host_copies-clause-cause : goal.returns-in_err-host_copies-clause-cause
returns-in_err-host_copies-clause-cause c =
    let f = c.args.frequency in let w = c.args.self.now in let x = c.args.list.now in let fault = c.in_err-host_copies.field-0.0 in
    exit (walked f w (host_visits f c.args.router c.args.net.now x)) c.from_residual-in_err-host_copies.result fault c.from_residual-in_err-host_copies.ensures.1
    (later (λ e. host_ok f w c.args.router c.args.net.now x c.in_ok-ids.ids c.in_ok-gateway.gateway c.in_ok-ids.ensures.read c.in_ok-gateway.ensures.read ∙ e) c.in_err-host_copies.ensures.cause)

pub returns-clause-walked : goal.returns-clause-walked
returns-clause-walked c =
    let f = c.args.frequency in let w = c.args.self.now in let x = c.args.list.now in
    host_ok f w c.args.router c.args.net.now x c.in_ok-ids.ids c.in_ok-gateway.gateway c.in_ok-ids.ensures.read c.in_ok-gateway.ensures.read ∙ c.in_ok-host_copies.ensures.walked
