use Rattle.ssf_model.specs.Scene.{scene_of}
use Rattle.timeline.proofs.TellsBounds.{low_is, ahead_is}
use Rattle.timeline.proofs.Free.{next_low}
use Rattle.timeline.proofs.Executed.{keys, bound_same}
use Rattle.timeline.proofs.laws.timelines_tell_their_bounds.Goals as goal

pub returns-clause-bound : goal.returns-clause-bound
returns-clause-bound g c = λ b plan until kept line net fits in_time i m t on sound.
    bound_same (g.B.Behaviour.reaction b) (g.B.Behaviour.valid b) (g.B.Behaviour.carried b) (g.met.B.Behaviour.sound b) (g.met.B.Behaviour.modest b) plan until in_time fits kept line net i m t on sound

pub returns-clause-low : goal.returns-clause-low
returns-clause-low g c = λ b plan until kept line net fits in_time i m t on sound.
    low_is (scene_of (g.B.Behaviour.reaction b) plan until kept line net) (keys (g.B.Behaviour.reaction b) (g.B.Behaviour.valid b) (g.B.Behaviour.carried b) (g.met.B.Behaviour.sound b) (g.met.B.Behaviour.modest b) plan until in_time fits kept line net) i m t
    (bound_same (g.B.Behaviour.reaction b) (g.B.Behaviour.valid b) (g.B.Behaviour.carried b) (g.met.B.Behaviour.sound b) (g.met.B.Behaviour.modest b) plan until in_time fits kept line net i m t on sound)

pub returns-clause-ahead : goal.returns-clause-ahead
returns-clause-ahead g c = λ b plan until kept line net fits in_time i m t on sound.
    ahead_is (scene_of (g.B.Behaviour.reaction b) plan until kept line net) (keys (g.B.Behaviour.reaction b) (g.B.Behaviour.valid b) (g.B.Behaviour.carried b) (g.met.B.Behaviour.sound b) (g.met.B.Behaviour.modest b) plan until in_time fits kept line net) m t sound.until

pub returns-clause-spent : goal.returns-clause-spent
returns-clause-spent g c = λ b plan until kept line net fits in_time i m t on sound event rest spent first. next_low t (sound.stopped spent) event rest first
