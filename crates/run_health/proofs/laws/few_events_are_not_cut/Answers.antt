use Rattle.run_health.proofs.OfFitting.{same_lists, same_told}
use Rattle.run_health.proofs.laws.few_events_are_not_cut.Goals as goal

pub returns : goal.returns
returns g c = λ b plan until kept line net fits in_time aligned most n other few here there. record {
  events = same_lists (g.B.Behaviour.reaction b) (g.B.Behaviour.valid b) (g.B.Behaviour.carried b) (g.met.B.Behaviour.sound b) (g.met.B.Behaviour.modest b) plan until in_time fits kept line aligned net other most here there few n;
  entries = same_told (g.B.Behaviour.reaction b) (g.B.Behaviour.valid b) (g.B.Behaviour.carried b) (g.met.B.Behaviour.sound b) (g.met.B.Behaviour.modest b) plan until in_time fits kept line aligned net other most here there few n;
}
