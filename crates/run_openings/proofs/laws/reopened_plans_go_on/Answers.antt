use Rattle.std.proofs.Common.{refl}
use Rattle.run_openings.proofs.Again.{same_worlds, same_events, same_entries, same_openings}
use Rattle.run_openings.proofs.laws.reopened_plans_go_on.Goals as goal

pub returns-clause-run : goal.returns-clause-run
returns-clause-run g c = λ b plan until kept line net fits in_time n. record {
  worlds = λ k. same_worlds (g.B.Behaviour.reaction b) (g.B.Behaviour.valid b) (g.B.Behaviour.carried b) (g.met.B.Behaviour.sound b) (g.met.B.Behaviour.modest b) plan until in_time fits kept n k;
  events = λ k. same_events (g.B.Behaviour.reaction b) (g.B.Behaviour.valid b) (g.B.Behaviour.carried b) (g.met.B.Behaviour.sound b) (g.met.B.Behaviour.modest b) plan until in_time fits kept n k;
  entries = λ k. same_entries (g.B.Behaviour.reaction b) (g.B.Behaviour.valid b) (g.B.Behaviour.carried b) (g.met.B.Behaviour.sound b) (g.met.B.Behaviour.modest b) plan until in_time fits kept n k;
}

pub returns-clause-openings : goal.returns-clause-openings
returns-clause-openings g c = λ b plan until kept line net fits in_time.
    same_openings (g.B.Behaviour.reaction b) (g.B.Behaviour.valid b) (g.B.Behaviour.carried b) (g.met.B.Behaviour.sound b) (g.met.B.Behaviour.modest b) plan until in_time fits kept

pub returns-clause-before : goal.returns-clause-before
returns-clause-before g c = λ b plan until kept n. refl
