use Rattle.worker_pool.proofs.Values.{home_at}
use Rattle.worker_pool.proofs.pool.carry_values.Goals as goal

pub returns-in-Ok-clause-values : goal.returns-in-Ok-clause-values
returns-in-Ok-clause-values g c = home_at _ _ _ c.carry_turns.result.items c.in-Ok.ensures.key c.carry_turns.ensures.values
