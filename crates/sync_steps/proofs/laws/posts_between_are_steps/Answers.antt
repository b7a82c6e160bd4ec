use Rattle.ssf_model.specs.Scene.{scene_of}
use Rattle.timeline.proofs.Executed.{keys}
use Rattle.sync_steps.proofs.SoundPairs.{out_known, post_enabled, post_possible, post_as, row_as, post_keeps, mail_keeps}
use Rattle.sync_steps.proofs.laws.posts_between_are_steps.Goals as goal

pub returns-clause-known : goal.returns-clause-known
returns-clause-known g c = λ b plan until kept line net fits in_time i m t on sound.
    out_known plan line (scene_of (g.B.Behaviour.reaction b) plan until kept line net) (keys (g.B.Behaviour.reaction b) (g.B.Behaviour.valid b) (g.B.Behaviour.carried b) (g.met.B.Behaviour.sound b) (g.met.B.Behaviour.modest b) plan until in_time fits kept line net) on.shared i m t sound

pub returns-clause-enabled : goal.returns-clause-enabled
returns-clause-enabled g c = λ b plan until kept line net fits in_time i m t on sound c mail out.
    (post_enabled plan line (scene_of (g.B.Behaviour.reaction b) plan until kept line net) (keys (g.B.Behaviour.reaction b) (g.B.Behaviour.valid b) (g.B.Behaviour.carried b) (g.met.B.Behaviour.sound b) (g.met.B.Behaviour.modest b) plan until in_time fits kept line net) on.shared i m t sound c out mail, post_possible plan line (scene_of (g.B.Behaviour.reaction b) plan until kept line net) (keys (g.B.Behaviour.reaction b) (g.B.Behaviour.valid b) (g.B.Behaviour.carried b) (g.met.B.Behaviour.sound b) (g.met.B.Behaviour.modest b) plan until in_time fits kept line net) on.shared i m t sound c out mail)

pub returns-clause-line : goal.returns-clause-line
returns-clause-line g c = λ b plan until kept line net fits in_time i m t on sound c after mail mail_after out q.
    post_as plan line (scene_of (g.B.Behaviour.reaction b) plan until kept line net) (keys (g.B.Behaviour.reaction b) (g.B.Behaviour.valid b) (g.B.Behaviour.carried b) (g.met.B.Behaviour.sound b) (g.met.B.Behaviour.modest b) plan until in_time fits kept line net) on.shared i m t sound c out after mail mail_after q

pub returns-clause-row : goal.returns-clause-row
returns-clause-row g c = λ b plan until kept line net fits in_time i m t on sound c after mail mail_after out q.
    row_as plan line (scene_of (g.B.Behaviour.reaction b) plan until kept line net) (keys (g.B.Behaviour.reaction b) (g.B.Behaviour.valid b) (g.B.Behaviour.carried b) (g.met.B.Behaviour.sound b) (g.met.B.Behaviour.modest b) plan until in_time fits kept line net) on.shared i m t sound c out after mail mail_after q

pub returns-clause-timeline : goal.returns-clause-timeline
returns-clause-timeline g c = λ b plan until kept line net fits in_time i m t on sound c after mail mail_after out q.
    post_keeps plan line (scene_of (g.B.Behaviour.reaction b) plan until kept line net) (keys (g.B.Behaviour.reaction b) (g.B.Behaviour.valid b) (g.B.Behaviour.carried b) (g.met.B.Behaviour.sound b) (g.met.B.Behaviour.modest b) plan until in_time fits kept line net) on.shared i m t sound c out after mail mail_after q

pub returns-clause-mail : goal.returns-clause-mail
returns-clause-mail g c = λ b plan until kept line net fits in_time i m t on sound c after mail mail_after out q.
    mail_keeps plan line (scene_of (g.B.Behaviour.reaction b) plan until kept line net) (keys (g.B.Behaviour.reaction b) (g.B.Behaviour.valid b) (g.B.Behaviour.carried b) (g.met.B.Behaviour.sound b) (g.met.B.Behaviour.modest b) plan until in_time fits kept line net) on.shared i m t sound c out after mail mail_after q
