use Rattle.std.proofs.Common.{refl}
use Rattle.timeline.proofs.timeline.Timeline.give_up.Goals as goal

pub returns : goal.returns
returns g c = rw (← c.self.view_is) (rw c.drop_before.ensures refl)
