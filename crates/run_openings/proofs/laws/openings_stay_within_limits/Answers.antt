use Rattle.run_openings.proofs.Room.{within_limits, planned_room}
use Rattle.run_openings.proofs.laws.openings_stay_within_limits.Goals as goal

pub returns-clause-limits : goal.returns-clause-limits
returns-clause-limits g c = λ b plan until kept line net fits in_time.
    within_limits (g.B.Behaviour.reaction b) (g.B.Behaviour.valid b) (g.B.Behaviour.carried b) (g.met.B.Behaviour.sound b) (g.met.B.Behaviour.modest b) plan until in_time fits kept

pub returns-clause-finished : goal.returns-clause-finished
returns-clause-finished g c = λ d n few. planned_room n few d
