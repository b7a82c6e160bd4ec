use Rattle.event_order.proofs.Steps.{ended_later, ended_after}
use Rattle.run_laws.proofs.laws.ended_runs_stay_ended.Goals as goal

pub returns-clause-over : goal.returns-clause-over
returns-clause-over g c = λ s n k later. ended_later s.machine s.until s.kept s.opening n k later

pub returns-clause-same : goal.returns-clause-same
returns-clause-same g c = λ s n k later. ended_after s.machine s.until s.kept s.opening n k later
