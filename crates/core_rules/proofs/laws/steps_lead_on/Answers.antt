use Rattle.core_rules.proofs.Leads.{none_joins, steps_joined, run_stays}
use Rattle.core_rules.proofs.laws.steps_lead_on.Goals as goal

pub returns-clause-none : goal.returns-clause-none
returns-clause-none g c = λ b core.
    none_joins (g.B.Behaviour.reaction b) (g.B.Behaviour.valid b) (g.B.Behaviour.carried b) (g.met.B.Behaviour.sound b) (g.met.B.Behaviour.modest b) core

pub returns-clause-join : goal.returns-clause-join
returns-clause-join g c = λ b core between after one two.
    steps_joined (g.B.Behaviour.reaction b) (g.B.Behaviour.valid b) (g.B.Behaviour.carried b) (g.met.B.Behaviour.sound b) (g.met.B.Behaviour.modest b) core between after one two

pub returns-clause-run : goal.returns-clause-run
returns-clause-run g c = λ b core after steps q.
    run_stays (g.B.Behaviour.reaction b) (g.B.Behaviour.valid b) (g.B.Behaviour.carried b) (g.met.B.Behaviour.sound b) (g.met.B.Behaviour.modest b) core after steps q
