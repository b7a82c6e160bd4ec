use Rattle.run_openings.proofs.Longer.{longer_worlds, longer_events, longer_entries}
use Rattle.run_openings.proofs.laws.longer_runs_go_on.Goals as goal

pub returns : goal.returns
returns g c = λ b plan until kept line net fits in_time later n less all. record {
  worlds = λ k. longer_worlds (g.B.Behaviour.reaction b) (g.B.Behaviour.valid b) (g.B.Behaviour.carried b) (g.met.B.Behaviour.sound b) (g.met.B.Behaviour.modest b) plan until in_time fits kept later less n k all;
  events = λ k. longer_events (g.B.Behaviour.reaction b) (g.B.Behaviour.valid b) (g.B.Behaviour.carried b) (g.met.B.Behaviour.sound b) (g.met.B.Behaviour.modest b) plan until in_time fits kept later less n k all;
  entries = λ k. longer_entries (g.B.Behaviour.reaction b) (g.B.Behaviour.valid b) (g.B.Behaviour.carried b) (g.met.B.Behaviour.sound b) (g.met.B.Behaviour.modest b) plan until in_time fits kept later less n k all;
}
