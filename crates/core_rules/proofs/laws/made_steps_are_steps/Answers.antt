use Rattle.core_rules.proofs.Leads.{made_leads, spent_stays, given_up_stays}
use Rattle.core_rules.proofs.laws.made_steps_are_steps.Goals as goal

pub returns-clause-step : goal.returns-clause-step
returns-clause-step g c = λ b step core after q plan until kept line net fits in_time at v on sound.
    made_leads (g.B.Behaviour.reaction b) (g.B.Behaviour.valid b) (g.B.Behaviour.carried b) (g.met.B.Behaviour.sound b) (g.met.B.Behaviour.modest b) plan until in_time fits kept line net core at v on sound step after q

pub returns-clause-steps : goal.returns-clause-steps
returns-clause-steps g c = λ b step core after q plan until kept line net fits in_time at v on sound.
    let made = made_leads (g.B.Behaviour.reaction b) (g.B.Behaviour.valid b) (g.B.Behaviour.carried b) (g.met.B.Behaviour.sound b) (g.met.B.Behaviour.modest b) plan until in_time fits kept line net core at v on sound step after q in
    (made.0, made.2)

pub returns-clause-spent : goal.returns-clause-spent
returns-clause-spent g c = λ b i core after q plan until kept line net fits in_time at v on sound.
    (0, spent_stays (g.B.Behaviour.reaction b) (g.B.Behaviour.valid b) (g.B.Behaviour.carried b) (g.met.B.Behaviour.sound b) (g.met.B.Behaviour.modest b) plan until in_time fits kept line net core at v on sound i after q)

pub returns-clause-given_up : goal.returns-clause-given_up
returns-clause-given_up g c = λ b below core plan until kept line net fits in_time at v on sound.
    (0, given_up_stays (g.B.Behaviour.reaction b) (g.B.Behaviour.valid b) (g.B.Behaviour.carried b) (g.met.B.Behaviour.sound b) (g.met.B.Behaviour.modest b) plan until in_time fits kept line net core at v on sound below)
