use Rattle.std.proofs.Common.{sym, subst}
use Rattle.event_order.specs.Order.{IsBefore}
use Rattle.ssf_model.specs.Scene.{scene_of}
use Rattle.timeline.proofs.Executed.{keys, of_history}
use Rattle.timeline.proofs.Moved.{take_line, take_sound, take_late, take_after, take_low_in}
use Rattle.timeline.proofs.laws.taking_is_the_step.Goals as goal

pub returns-clause-line : goal.returns-clause-line
returns-clause-line g c = λ b plan until kept line net fits in_time i m t on sound c parcel after q.
    take_line plan line (scene_of (g.B.Behaviour.reaction b) plan until kept line net) (keys (g.B.Behaviour.reaction b) (g.B.Behaviour.valid b) (g.B.Behaviour.carried b) (g.met.B.Behaviour.sound b) (g.met.B.Behaviour.modest b) plan until in_time fits kept line net) on.shared i m t sound c parcel after q.known q.is q.first q.truth

pub returns-clause-sound : goal.returns-clause-sound
returns-clause-sound g c = λ b plan until kept line net fits in_time i m t on sound c parcel after q.
    take_sound plan line (scene_of (g.B.Behaviour.reaction b) plan until kept line net) (keys (g.B.Behaviour.reaction b) (g.B.Behaviour.valid b) (g.B.Behaviour.carried b) (g.met.B.Behaviour.sound b) (g.met.B.Behaviour.modest b) plan until in_time fits kept line net) on.shared i m t sound c parcel after q.known q.is q.first q.truth

pub returns-clause-late : goal.returns-clause-late
returns-clause-late g c = λ b plan until kept line net fits in_time i m t on sound c parcel after q.
    take_late plan line (scene_of (g.B.Behaviour.reaction b) plan until kept line net) (keys (g.B.Behaviour.reaction b) (g.B.Behaviour.valid b) (g.B.Behaviour.carried b) (g.met.B.Behaviour.sound b) (g.met.B.Behaviour.modest b) plan until in_time fits kept line net) on.shared i m t sound c parcel after q.known q.is q.first q.truth

pub returns-clause-after : goal.returns-clause-after
returns-clause-after g c = λ b plan until kept line net fits in_time i m t on sound c parcel after q.
    take_after plan line (scene_of (g.B.Behaviour.reaction b) plan until kept line net) (keys (g.B.Behaviour.reaction b) (g.B.Behaviour.valid b) (g.B.Behaviour.carried b) (g.met.B.Behaviour.sound b) (g.met.B.Behaviour.modest b) plan until in_time fits kept line net) on.shared i m t sound c parcel after q.known q.is q.first q.truth

pub returns-clause-low : goal.returns-clause-low
returns-clause-low g c = λ b plan until kept line net fits in_time i m t on sound c parcel after q.
    take_low_in plan line (scene_of (g.B.Behaviour.reaction b) plan until kept line net) (keys (g.B.Behaviour.reaction b) (g.B.Behaviour.valid b) (g.B.Behaviour.carried b) (g.met.B.Behaviour.sound b) (g.met.B.Behaviour.modest b) plan until in_time fits kept line net) on.shared i m t sound c parcel after q.known q.is q.first q.truth

pub returns-clause-history : goal.returns-clause-history
returns-clause-history g c = λ b plan until kept line net fits in_time i m t on sound c parcel after q x e a among.
    let of = of_history (g.B.Behaviour.reaction b) (g.B.Behaviour.valid b) (g.B.Behaviour.carried b) (g.met.B.Behaviour.sound b) (g.met.B.Behaviour.modest b) plan until in_time fits kept line net i m t on sound x a in
    subst (λ k. IsBefore k e.key) (sym of.key_is)
    (take_after plan line (scene_of (g.B.Behaviour.reaction b) plan until kept line net) (keys (g.B.Behaviour.reaction b) (g.B.Behaviour.valid b) (g.B.Behaviour.carried b) (g.met.B.Behaviour.sound b) (g.met.B.Behaviour.modest b) plan until in_time fits kept line net) on.shared i m t sound c parcel after q.known q.is q.first q.truth of.number of.event e of.below of.is of.own_event among)
