use Rattle.std.proofs.Common.{◌∙◌, refl, codes}
use Rattle.std.specs.List.{flat_map}
use Rattle.dml_tree.specs.TreeView.{attributes}
use Rattle.net_graph.specs.Keys.{lists_of}
use Rattle.net_graph.specs.Steps.{walked}
use Rattle.net_graph.specs.Visits.{a_pattern, pattern_visits, server_visits}
use Rattle.net_graph.proofs.Exits.{exit, later}
use Rattle.net_graph.proofs.Walks.{pattern_ok, pattern_err, met_more}
use Rattle.net_graph.proofs.seen.Seen.pattern.Goals as goal

pub returns-in_err-client-clause-cause : goal.returns-in_err-client-clause-cause
returns-in_err-client-clause-cause c =
    let f = c.args.frequency in let w = c.args.self.now in let n = c.args.net.now in let x = c.args.list.now in let fault = c.in_err-client.field-0.0 in
    exit (walked f w (pattern_visits n x)) c.from_residual.result fault c.from_residual.ensures.1 (later (λ e. pattern_err f w n x fault e) c.in_err-client.ensures.cause)

pub returns-in_err-servers-clause-cause : goal.returns-in_err-servers-clause-cause
returns-in_err-servers-clause-cause c =
    let f = c.args.frequency in let w = c.args.self.now in let n = c.args.net.now in let x = c.args.list.now in let fault = c.in_err-servers.field-0.0 in let k = c.in_ok-client.client in
    exit (walked f w (pattern_visits n x)) c.from_residual-in_err-servers.result fault c.from_residual-in_err-servers.ensures.1
    (later (λ e. pattern_ok f w n x k c.in_ok-client.ensures.read
    ∙ (met_more f w c.add_pattern.new.self (a_pattern n k) (flat_map (server_visits n) (lists_of (codes "servers") (attributes x))) refl c.in_ok-add_pattern.ensures.added ∙ e)) c.in_err-servers.ensures.cause)

pub returns-clause-walked : goal.returns-clause-walked
returns-clause-walked c =
    let f = c.args.frequency in let w = c.args.self.now in let n = c.args.net.now in let x = c.args.list.now in let k = c.in_ok-client.client in
    pattern_ok f w n x k c.in_ok-client.ensures.read
    ∙ (met_more f w c.add_pattern.new.self (a_pattern n k) (flat_map (server_visits n) (lists_of (codes "servers") (attributes x))) refl c.in_ok-add_pattern.ensures.added ∙ c.in_ok-servers.ensures.walked)
