use Rattle.std.proofs.Common.{◌+◌, length, subst}
use Rattle.ssf_model.specs.Scene.{scene_of}
use Rattle.ssf_model.specs.Truth.{IsStretch}
use Rattle.timeline.proofs.Executed.{keys, may_run}
use Rattle.timeline.proofs.Fresh.{new_events}
use Rattle.timeline.proofs.laws.sound_timelines_meet_the_calls.Goals as goal

pub returns-clause-run : goal.returns-clause-run
returns-clause-run g c = λ b plan until kept line net fits in_time i m t on sound event rest first free.
    may_run (g.B.Behaviour.reaction b) (g.B.Behaviour.valid b) (g.B.Behaviour.carried b) (g.met.B.Behaviour.sound b) (g.met.B.Behaviour.modest b) plan until in_time fits kept line net i m t on sound event rest first free

pub returns-clause-take : goal.returns-clause-take
returns-clause-take g c = λ b plan until kept line net fits in_time i m t on sound c parcel known first truth low.
    record {
      known = known;
      new = new_events (scene_of (g.B.Behaviour.reaction b) plan until kept line net) (keys (g.B.Behaviour.reaction b) (g.B.Behaviour.valid b) (g.B.Behaviour.carried b) (g.met.B.Behaviour.sound b) (g.met.B.Behaviour.modest b) plan until in_time fits kept line net) on.shared i m t sound.sound c (sound.placed.into c known) (parcel.first + length parcel.events) parcel.events
          (subst (λ k. IsStretch (scene_of (g.B.Behaviour.reaction b) plan until kept line net) c k parcel.events (parcel.first + length parcel.events)) first truth.events);
      end = low;
    }
