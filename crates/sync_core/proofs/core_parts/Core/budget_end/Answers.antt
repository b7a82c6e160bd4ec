use Rattle.sync_core.proofs.Firsts.{ends_nowhere}
use Rattle.sync_core.proofs.core_parts.Core.budget_end.Goals as goal

pub returns-then-is_behind-clause-none : goal.returns-then-is_behind-clause-none
returns-then-is_behind-clause-none g c = λ i q.
    let b = c.is_behind.ensures c.if-is_behind.true in
    ends_nowhere c.args.self.now c.args.work.now.over c.args.work.now.behind b.0 b.1 b.2 c.requires.work.over i q
