use Rattle.std.proofs.Common.{◌++◌, ◌∷◌, [], get_or, subst}
use Rattle.std.proofs.lemmas.Option.{slice_get-get_or}
use Rattle.spf_routes.specs.declared.graph.Route.{Route}
use Rattle.spf_routes.specs.Paths.{best_at}
use Rattle.spf_routes.specs.Arms.{IsLesser}
use Rattle.spf_routes.proofs.Rows.{first_rows, rows_skip, rows_more}
use Rattle.spf_routes.proofs.routes.table.Goals as goal

pub loop-link-init : goal.loop-link-init
loop-link-init c = ([], rw c.new-routes.ensures.items (first_rows c.args.blocks.now c.args.direct.now c.args.best.now))

pub loop-link-preserved-in_default : goal.loop-link-preserved-in_default
loop-link-preserved-in_default c =
    let rows = c.loop-link.invariant in
    (rows.0, rows_skip c.args.blocks.now c.args.direct.now c.args.best.now c.loop-link.link c.loop-link.routes.items rows.0 rows.1 (subst (IsLesser (best_at c.args.direct.now c.loop-link.link) (best_at c.args.best.now c.loop-link.link)) c.in_default.is c.lesser.ensures))

pub loop-link-preserved : goal.loop-link-preserved
loop-link-preserved c =
    let rows = c.loop-link.invariant in
    let route : Route = record { block = get_or c.args.blocks.now c.loop-link.link (record { base = 0; bits = 0 }); interface = c.in-Some.label.interface; next = c.in-Some.label.next; cost = c.in-Some.label.cost } in
    (rows.0 ++ c.loop-link.link ∷ [], rw c.in_ok-push.ensures.items (rows_more c.args.blocks.now c.args.direct.now c.args.best.now c.loop-link.link c.loop-link.routes.items rows.0 rows.1 route c.in-Some.ensures (slice_get-get_or c.args.blocks.now c.loop-link.link (record { base = 0; bits = 0 }) c.loop-link-test.true)))
