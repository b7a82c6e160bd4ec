use Rattle.dml_resolve.proofs.Expansions.{resolved_ok, resolved_err, if_ok, if_err, or_fault}
use Rattle.dml_resolve.proofs.resolving.resolve.Goals as goal

pub returns-clause-resolved : goal.returns-clause-resolved
returns-clause-resolved c = if_ok c.expand.result (λ tree e. resolved_ok c.args.tree.now c.in_ok-root.root tree c.new-counter.result.counted _ c.in_ok-root.ensures c.new-counter.ensures e) c.expand.ensures.tree

pub returns-clause-cause : goal.returns-clause-cause
returns-clause-cause c = if_err c.expand.result (λ reason h. or_fault (λ e. resolved_err c.args.tree.now c.in_ok-root.root c.new-counter.result.counted reason c.in_ok-root.ensures c.new-counter.ensures e) h) c.expand.ensures.fault
