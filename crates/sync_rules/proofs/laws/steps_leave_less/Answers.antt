use Rattle.sync_rules.proofs.Measures.{step_less, packed_less}
use Rattle.sync_rules.proofs.laws.steps_leave_less.Goals as goal

pub returns-clause-less : goal.returns-clause-less
returns-clause-less g c = λ s sh budget v t after sound step. step_less s sh budget v t sound after step

pub returns-clause-packed : goal.returns-clause-packed
returns-clause-packed g c = packed_less
