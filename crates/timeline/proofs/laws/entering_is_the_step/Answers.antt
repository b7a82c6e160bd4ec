use Rattle.ssf_model.specs.Scene.{scene_of}
use Rattle.timeline.proofs.Executed.{keys}
use Rattle.timeline.proofs.Moved.{enters_line, may_enter, enters_if_may, enters_by_barrier, enters_window, enters_low}
use Rattle.timeline.proofs.laws.entering_is_the_step.Goals as goal

pub returns-clause-line : goal.returns-clause-line
returns-clause-line g c = λ b plan until kept line net fits in_time i m t on sound.
    enters_line plan line (scene_of (g.B.Behaviour.reaction b) plan until kept line net) (keys (g.B.Behaviour.reaction b) (g.B.Behaviour.valid b) (g.B.Behaviour.carried b) (g.met.B.Behaviour.sound b) (g.met.B.Behaviour.modest b) plan until in_time fits kept line net) on.shared i m t sound

pub returns-clause-may : goal.returns-clause-may
returns-clause-may g c = λ b plan until kept line net fits in_time i m t on sound barrier counts.
    may_enter plan line (scene_of (g.B.Behaviour.reaction b) plan until kept line net) (keys (g.B.Behaviour.reaction b) (g.B.Behaviour.valid b) (g.B.Behaviour.carried b) (g.met.B.Behaviour.sound b) (g.met.B.Behaviour.modest b) plan until in_time fits kept line net) on.shared i m t sound counts barrier

pub returns-clause-barrier : goal.returns-clause-barrier
returns-clause-barrier g c = λ b plan until kept line net fits in_time i m t on sound.
    enters_by_barrier plan line (scene_of (g.B.Behaviour.reaction b) plan until kept line net) (keys (g.B.Behaviour.reaction b) (g.B.Behaviour.valid b) (g.B.Behaviour.carried b) (g.met.B.Behaviour.sound b) (g.met.B.Behaviour.modest b) plan until in_time fits kept line net) on.shared i m t sound

pub returns-clause-window : goal.returns-clause-window
returns-clause-window g c = λ b plan until kept line net fits in_time i m t on sound.
    enters_window plan line (scene_of (g.B.Behaviour.reaction b) plan until kept line net) (keys (g.B.Behaviour.reaction b) (g.B.Behaviour.valid b) (g.B.Behaviour.carried b) (g.met.B.Behaviour.sound b) (g.met.B.Behaviour.modest b) plan until in_time fits kept line net) on.shared i m t sound

pub returns-clause-low : goal.returns-clause-low
returns-clause-low g c = λ b plan until kept line net fits in_time i m t on sound.
    enters_low plan line (scene_of (g.B.Behaviour.reaction b) plan until kept line net) (keys (g.B.Behaviour.reaction b) (g.B.Behaviour.valid b) (g.B.Behaviour.carried b) (g.met.B.Behaviour.sound b) (g.met.B.Behaviour.modest b) plan until in_time fits kept line net) on.shared i m t sound

pub returns-clause-enters : goal.returns-clause-enters
returns-clause-enters g c = λ b plan until kept line net fits in_time i m t on sound barrier counts.
    enters_if_may plan line (scene_of (g.B.Behaviour.reaction b) plan until kept line net) (keys (g.B.Behaviour.reaction b) (g.B.Behaviour.valid b) (g.B.Behaviour.carried b) (g.met.B.Behaviour.sound b) (g.met.B.Behaviour.modest b) plan until in_time fits kept line net) on.shared i m t sound counts barrier
