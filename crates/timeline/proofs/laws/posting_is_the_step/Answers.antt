use Rattle.std.proofs.Common.{arith}
use Rattle.ssf_model.specs.Scene.{scene_of}
use Rattle.timeline.proofs.Executed.{keys}
use Rattle.timeline.proofs.Moved.{post_line, post_sound, post_true, post_first, post_end, post_promise, post_low}
use Rattle.timeline.proofs.Range.{written_in_range}
use Rattle.timeline.proofs.laws.posting_is_the_step.Goals as goal

pub returns-clause-line : goal.returns-clause-line
returns-clause-line g c = λ b plan until kept line net fits in_time i m t on sound c parcel after q.
    post_line plan line (scene_of (g.B.Behaviour.reaction b) plan until kept line net) (keys (g.B.Behaviour.reaction b) (g.B.Behaviour.valid b) (g.B.Behaviour.carried b) (g.met.B.Behaviour.sound b) (g.met.B.Behaviour.modest b) plan until in_time fits kept line net) on.shared i m t sound c parcel after q.known q.is

pub returns-clause-sound : goal.returns-clause-sound
returns-clause-sound g c = λ b plan until kept line net fits in_time i m t on sound c parcel after q.
    post_sound plan line (scene_of (g.B.Behaviour.reaction b) plan until kept line net) (keys (g.B.Behaviour.reaction b) (g.B.Behaviour.valid b) (g.B.Behaviour.carried b) (g.met.B.Behaviour.sound b) (g.met.B.Behaviour.modest b) plan until in_time fits kept line net) on.shared i m t sound c parcel after q.known q.is

pub returns-clause-parcel : goal.returns-clause-parcel
returns-clause-parcel g c = λ b plan until kept line net fits in_time i m t on sound c parcel after q.
    post_true plan line (scene_of (g.B.Behaviour.reaction b) plan until kept line net) (keys (g.B.Behaviour.reaction b) (g.B.Behaviour.valid b) (g.B.Behaviour.carried b) (g.met.B.Behaviour.sound b) (g.met.B.Behaviour.modest b) plan until in_time fits kept line net) on.shared i m t sound c parcel after q.known q.is

pub returns-clause-first : goal.returns-clause-first
returns-clause-first g c = λ b plan until kept line net fits in_time i m t on sound c parcel after q.
    post_first plan line (scene_of (g.B.Behaviour.reaction b) plan until kept line net) (keys (g.B.Behaviour.reaction b) (g.B.Behaviour.valid b) (g.B.Behaviour.carried b) (g.met.B.Behaviour.sound b) (g.met.B.Behaviour.modest b) plan until in_time fits kept line net) on.shared i m t sound c parcel after q.known q.is

pub returns-clause-end : goal.returns-clause-end
returns-clause-end g c = λ b plan until kept line net fits in_time i m t on sound c parcel after q.
    post_end plan line (scene_of (g.B.Behaviour.reaction b) plan until kept line net) (keys (g.B.Behaviour.reaction b) (g.B.Behaviour.valid b) (g.B.Behaviour.carried b) (g.met.B.Behaviour.sound b) (g.met.B.Behaviour.modest b) plan until in_time fits kept line net) on.shared i m t sound c parcel after q.known q.is

pub returns-clause-promise : goal.returns-clause-promise
returns-clause-promise g c = λ b plan until kept line net fits in_time i m t on sound c parcel after q.
    post_promise plan line (scene_of (g.B.Behaviour.reaction b) plan until kept line net) (keys (g.B.Behaviour.reaction b) (g.B.Behaviour.valid b) (g.B.Behaviour.carried b) (g.met.B.Behaviour.sound b) (g.met.B.Behaviour.modest b) plan until in_time fits kept line net) on.shared i m t sound c parcel after q.known q.is

pub returns-clause-low : goal.returns-clause-low
returns-clause-low g c = λ b plan until kept line net fits in_time i m t on sound c parcel after q.
    post_low plan line (scene_of (g.B.Behaviour.reaction b) plan until kept line net) (keys (g.B.Behaviour.reaction b) (g.B.Behaviour.valid b) (g.B.Behaviour.carried b) (g.met.B.Behaviour.sound b) (g.met.B.Behaviour.modest b) plan until in_time fits kept line net) on.shared i m t sound c parcel after q.known q.is

pub returns-clause-range : goal.returns-clause-range
returns-clause-range g c = λ b plan until kept line net fits in_time i m t on sound c parcel after q.
    let low = written_in_range (g.B.Behaviour.reaction b) (g.B.Behaviour.valid b) (g.B.Behaviour.carried b) (g.met.B.Behaviour.sound b) (g.met.B.Behaviour.modest b) plan until in_time fits kept line net i m t on sound c (sound.placed.out c q.known) in
    let end = post_end plan line (scene_of (g.B.Behaviour.reaction b) plan until kept line net) (keys (g.B.Behaviour.reaction b) (g.B.Behaviour.valid b) (g.B.Behaviour.carried b) (g.met.B.Behaviour.sound b) (g.met.B.Behaviour.modest b) plan until in_time fits kept line net) on.shared i m t sound c parcel after q.known q.is in
    omega (arith, low, end)
