use Rattle.std.proofs.Common.{◌∙◌, ap, nat_lt}
use Rattle.timeline.specs.Holding.{low_in}
use Rattle.sync_core.proofs.Allowing.{may_execute_by}
use Rattle.sync_core.proofs.finding.may_execute.Goals as goal

pub returns : goal.returns
returns g c =
    let t = c.args.timeline.now in
    c.no_cause.ensures
    ∙ may_execute_by t c.spent.result c.done.result (nat_lt c.lower_bound.result c.bound-bound.result.0) c.over.result c.spent.ensures c.done.ensures
    (ap (λ l. nat_lt l c.bound-bound.result.0) c.lower_bound.ensures ∙ ap (λ n. nat_lt (low_in t) n) c.bound-bound.ensures.bound) c.over.ensures
