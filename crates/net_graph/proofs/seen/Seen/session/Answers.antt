use Rattle.std.proofs.Common.{◌∙◌, []}
use Rattle.net_graph.specs.Steps.{walked}
use Rattle.net_graph.specs.Visits.{a_session, session_visits}
use Rattle.net_graph.proofs.Exits.{exit, later}
use Rattle.net_graph.proofs.Walks.{session_ok, session_err, met_fault, met_one}
use Rattle.net_graph.proofs.seen.Seen.session.Goals as goal

pub returns-in_err-keys-clause-cause : goal.returns-in_err-keys-clause-cause
returns-in_err-keys-clause-cause c =
    let f = c.args.frequency in let w = c.args.self.now in let x = c.args.list.now in let fault = c.in_err-keys.field-0.0 in
    exit (walked f w (session_visits f x)) c.from_residual.result fault c.from_residual.ensures.1 (later (λ e. session_err f w x fault e) c.in_err-keys.ensures.cause)

pub returns-in_err-add_session-clause-cause : goal.returns-in_err-add_session-clause-cause
returns-in_err-add_session-clause-cause c =
    let f = c.args.frequency in let w = c.args.self.now in let x = c.args.list.now in let fault = c.in_err-add_session.field-0.0 in let k = c.in_ok-keys.keys in
    exit (walked f w (session_visits f x)) c.from_residual-in_err-add_session.result fault c.from_residual-in_err-add_session.ensures.1
    (later (λ e. session_ok f w x k c.in_ok-keys.ensures.read ∙ met_fault f w (a_session k) [] fault e) c.in_err-add_session.ensures.cause)

pub returns-clause-walked : goal.returns-clause-walked
returns-clause-walked c =
    let f = c.args.frequency in let w = c.args.self.now in let x = c.args.list.now in let k = c.in_ok-keys.keys in
    session_ok f w x k c.in_ok-keys.ensures.read ∙ met_one f w c.add_session.new.self (a_session k) c.in_ok-add_session.ensures.fine c.in_ok-add_session.ensures.added
