use Rattle.ssf_model.specs.Scene.{scene_of}
use Rattle.timeline.proofs.Executed.{keys}
use Rattle.sync_steps.proofs.SoundPairs.{entry_may, entry_keeps}
use Rattle.sync_steps.proofs.laws.entries_from_are_steps.Goals as goal

pub returns-clause-enabled : goal.returns-clause-enabled
returns-clause-enabled g c = λ b plan until kept line net fits in_time i m t on sound barrier rising each places.
    entry_may plan line (scene_of (g.B.Behaviour.reaction b) plan until kept line net) (keys (g.B.Behaviour.reaction b) (g.B.Behaviour.valid b) (g.B.Behaviour.carried b) (g.met.B.Behaviour.sound b) (g.met.B.Behaviour.modest b) plan until in_time fits kept line net) on.shared i m t sound barrier rising each places

pub returns-clause-timeline : goal.returns-clause-timeline
returns-clause-timeline g c = λ b plan until kept line net fits in_time i m t on sound barrier rising each places.
    entry_keeps plan line (scene_of (g.B.Behaviour.reaction b) plan until kept line net) (keys (g.B.Behaviour.reaction b) (g.B.Behaviour.valid b) (g.B.Behaviour.carried b) (g.met.B.Behaviour.sound b) (g.met.B.Behaviour.modest b) plan until in_time fits kept line net) on.shared i m t sound barrier rising each places
