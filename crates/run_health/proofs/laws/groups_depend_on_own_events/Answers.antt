use Rattle.run_health.proofs.Grouped.{group_is_own}
use Rattle.run_health.proofs.laws.groups_depend_on_own_events.Goals as goal

pub returns : goal.returns
returns g c = λ b plan until kept line net fits in_time own.
    group_is_own (g.B.Behaviour.reaction b) (g.B.Behaviour.valid b) (g.B.Behaviour.carried b) (g.met.B.Behaviour.sound b) (g.met.B.Behaviour.modest b) plan until kept in_time fits own
