use Rattle.std.proofs.Common.{ap, sym, ◌∙◌}
use Rattle.net_graph.specs.NetworkOf.{rows_of}
use Rattle.net_resolve.proofs.Turns.{exit, later}
use Rattle.net_resolve.proofs.build.rows_of.Goals as goal

pub returns-in_err-parts-clause-cause : goal.returns-in_err-parts-clause-cause
returns-in_err-parts-clause-cause c =
    let f = c.args.frequency in let fault = c.in_err-parts.field-0.0 in
    exit (rows_of f c.args.seen) c.from_residual-in_err-parts.result fault c.from_residual-in_err-parts.ensures.1
    (later (λ e. ap (rows_of f) (sym c.in_ok-found.ensures.found) ∙ e) c.in_err-parts.ensures.cause)
