use Rattle.std.proofs.Common.{refl, ap}
use Rattle.ssf_model.specs.Scene.{scene_of}
use Rattle.timeline.proofs.Executed.{keys}
use Rattle.run_laws.proofs.Histories.{line_rises}
use Rattle.run_laws.proofs.Opens.{fits_open}
use Rattle.timeline.specs.Lines.{line_of}
use Rattle.timeline.proofs.Moved.{roomy, given_up_sound, history_rises, spent_sound}
use Rattle.timeline.proofs.laws.other_calls_keep_sound.Goals as goal

pub returns-clause-room : goal.returns-clause-room
returns-clause-room g c = λ b plan until kept line net fits in_time i m t on sound n.
    (refl, roomy plan line (scene_of (g.B.Behaviour.reaction b) plan until kept line net) (keys (g.B.Behaviour.reaction b) (g.B.Behaviour.valid b) (g.B.Behaviour.carried b) (g.met.B.Behaviour.sound b) (g.met.B.Behaviour.modest b) plan until in_time fits kept line net) on.shared i m t sound n)

pub returns-clause-given_up : goal.returns-clause-given_up
returns-clause-given_up g c = λ b plan until kept line net fits in_time i m t on sound below. (
  refl,
  given_up_sound plan line (scene_of (g.B.Behaviour.reaction b) plan until kept line net) (keys (g.B.Behaviour.reaction b) (g.B.Behaviour.valid b) (g.B.Behaviour.carried b) (g.met.B.Behaviour.sound b) (g.met.B.Behaviour.modest b) plan until in_time fits kept line net) on.shared i m t sound below
      (history_rises plan line (scene_of (g.B.Behaviour.reaction b) plan until kept line net) (keys (g.B.Behaviour.reaction b) (g.B.Behaviour.valid b) (g.B.Behaviour.carried b) (g.met.B.Behaviour.sound b) (g.met.B.Behaviour.modest b) plan until in_time fits kept line net) on.shared i m t sound
      (line_rises (g.B.Behaviour.reaction b) plan until kept line net (fits_open (g.B.Behaviour.valid b) (g.B.Behaviour.carried b) plan fits) i m)),
)

pub returns-clause-spent : goal.returns-clause-spent
returns-clause-spent g c = λ b plan until kept line net fits in_time i m t on sound after none is order.
    (ap (line_of m) is, spent_sound plan line (scene_of (g.B.Behaviour.reaction b) plan until kept line net) (keys (g.B.Behaviour.reaction b) (g.B.Behaviour.valid b) (g.B.Behaviour.carried b) (g.met.B.Behaviour.sound b) (g.met.B.Behaviour.modest b) plan until in_time fits kept line net) on.shared i m t sound after none is order)
