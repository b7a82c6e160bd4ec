use Rattle.ssf_model.specs.Scene.{scene_of}
use Rattle.timeline.proofs.Executed.{keys}
use Rattle.sync_steps.proofs.SoundPairs.{mail_new, take_enabled, take_possible, lines_as, rows_as, take_keeps, mails_keep, own_keeps}
use Rattle.sync_steps.proofs.laws.takes_between_are_steps.Goals as goal

pub returns-clause-new : goal.returns-clause-new
returns-clause-new g c = λ b plan until kept line net fits in_time i m t on sound mail own.
    mail_new plan line (scene_of (g.B.Behaviour.reaction b) plan until kept line net) (keys (g.B.Behaviour.reaction b) (g.B.Behaviour.valid b) (g.B.Behaviour.carried b) (g.met.B.Behaviour.sound b) (g.met.B.Behaviour.modest b) plan until in_time fits kept line net) on.shared i m mail t sound own

pub returns-clause-enabled : goal.returns-clause-enabled
returns-clause-enabled g c = λ b plan until kept line net fits in_time i m t on sound mail own.
    (take_enabled plan line (scene_of (g.B.Behaviour.reaction b) plan until kept line net) (keys (g.B.Behaviour.reaction b) (g.B.Behaviour.valid b) (g.B.Behaviour.carried b) (g.met.B.Behaviour.sound b) (g.met.B.Behaviour.modest b) plan until in_time fits kept line net) on.shared i m mail t sound own, λ q. take_possible plan line (scene_of (g.B.Behaviour.reaction b) plan until kept line net) (keys (g.B.Behaviour.reaction b) (g.B.Behaviour.valid b) (g.B.Behaviour.carried b) (g.met.B.Behaviour.sound b) (g.met.B.Behaviour.modest b) plan until in_time fits kept line net) on.shared i m mail t sound own q.0 q.1 q.2)

pub returns-clause-line : goal.returns-clause-line
returns-clause-line g c = λ b plan until kept line net fits in_time i m t on sound mail mail_after after own mails q.
    lines_as plan line (scene_of (g.B.Behaviour.reaction b) plan until kept line net) (keys (g.B.Behaviour.reaction b) (g.B.Behaviour.valid b) (g.B.Behaviour.carried b) (g.met.B.Behaviour.sound b) (g.met.B.Behaviour.modest b) plan until in_time fits kept line net) on.shared i m mail t sound own mails mail_after after q

pub returns-clause-row : goal.returns-clause-row
returns-clause-row g c = λ b plan until kept line net fits in_time i m t on sound mail mail_after after own mails q.
    rows_as plan line (scene_of (g.B.Behaviour.reaction b) plan until kept line net) (keys (g.B.Behaviour.reaction b) (g.B.Behaviour.valid b) (g.B.Behaviour.carried b) (g.met.B.Behaviour.sound b) (g.met.B.Behaviour.modest b) plan until in_time fits kept line net) on.shared i m mail t sound own mails mail_after after q

pub returns-clause-timeline : goal.returns-clause-timeline
returns-clause-timeline g c = λ b plan until kept line net fits in_time i m t on sound mail mail_after after own mails q.
    take_keeps plan line (scene_of (g.B.Behaviour.reaction b) plan until kept line net) (keys (g.B.Behaviour.reaction b) (g.B.Behaviour.valid b) (g.B.Behaviour.carried b) (g.met.B.Behaviour.sound b) (g.met.B.Behaviour.modest b) plan until in_time fits kept line net) on.shared i m mail t sound own mails mail_after after q

pub returns-clause-mail : goal.returns-clause-mail
returns-clause-mail g c = λ b plan until kept line net fits in_time i m t on sound mail mail_after after own mails q.
    (mails_keep plan line (scene_of (g.B.Behaviour.reaction b) plan until kept line net) (keys (g.B.Behaviour.reaction b) (g.B.Behaviour.valid b) (g.B.Behaviour.carried b) (g.met.B.Behaviour.sound b) (g.met.B.Behaviour.modest b) plan until in_time fits kept line net) on.shared i m mail t sound own mails mail_after after q, own_keeps plan line (scene_of (g.B.Behaviour.reaction b) plan until kept line net) (keys (g.B.Behaviour.reaction b) (g.B.Behaviour.valid b) (g.B.Behaviour.carried b) (g.met.B.Behaviour.sound b) (g.met.B.Behaviour.modest b) plan until in_time fits kept line net) on.shared i m mail t sound own mails mail_after after q)
