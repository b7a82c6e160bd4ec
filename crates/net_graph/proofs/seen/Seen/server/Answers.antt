use Rattle.std.proofs.Common.{◌∙◌, []}
use Rattle.net_graph.specs.Steps.{walked}
use Rattle.net_graph.specs.Visits.{a_server, server_visits}
use Rattle.net_graph.proofs.Exits.{exit, later}
use Rattle.net_graph.proofs.Walks.{server_ok, server_err, met_fault, met_one}
use Rattle.net_graph.proofs.seen.Seen.server.Goals as goal

pub returns-in_err-keys-clause-cause : goal.returns-in_err-keys-clause-cause
returns-in_err-keys-clause-cause c =
    let f = c.args._frequency in let w = c.args.self.now in let n = c.args.net.now in let x = c.args.list.now in let fault = c.in_err-keys.field-0.0 in
    exit (walked f w (server_visits n x)) c.from_residual.result fault c.from_residual.ensures.1 (later (λ e. server_err f w n x fault e) c.in_err-keys.ensures.cause)

pub returns-in_err-add_server-clause-cause : goal.returns-in_err-add_server-clause-cause
returns-in_err-add_server-clause-cause c =
    let f = c.args._frequency in let w = c.args.self.now in let n = c.args.net.now in let x = c.args.list.now in let fault = c.in_err-add_server.field-0.0 in let k = c.in_ok-keys.keys in
    exit (walked f w (server_visits n x)) c.from_residual-in_err-add_server.result fault c.from_residual-in_err-add_server.ensures.1
    (later (λ e. server_ok f w n x k c.in_ok-keys.ensures.read ∙ met_fault f w (a_server n k) [] fault e) c.in_err-add_server.ensures.cause)

pub returns-clause-walked : goal.returns-clause-walked
returns-clause-walked c =
    let f = c.args._frequency in let w = c.args.self.now in let n = c.args.net.now in let x = c.args.list.now in let k = c.in_ok-keys.keys in
    server_ok f w n x k c.in_ok-keys.ensures.read ∙ met_one f w c.add_server.new.self (a_server n k) c.in_ok-add_server.ensures.fine c.in_ok-add_server.ensures.added
