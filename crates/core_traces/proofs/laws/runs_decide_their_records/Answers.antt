use Rattle.event_order.specs.Machine.{within}
use Rattle.run_laws.proofs.OfPlans.{plan_cut_ends}
use Rattle.run_laws.proofs.Opens.{fits_open}
use Rattle.core_traces.proofs.Records.{one_below, one_all, all_there}
use Rattle.core_traces.proofs.laws.runs_decide_their_records.Goals as goal

pub returns-clause-below : goal.returns-clause-below
returns-clause-below g c = λ b plan until kept f entries others p q. one_below (g.B.Behaviour.reaction b) plan until kept f entries others p q

pub returns-clause-all : goal.returns-clause-all
returns-clause-all g c = λ b plan until kept entries others p q. one_all (g.B.Behaviour.reaction b) plan until kept entries others p q

pub returns-clause-there : goal.returns-clause-there
returns-clause-there g c = λ b plan until round fits.
    let end = plan_cut_ends (g.B.Behaviour.reaction b) plan until (fits_open (g.B.Behaviour.valid b) (g.B.Behaviour.carried b) plan fits) round in
    all_there (g.B.Behaviour.reaction b) plan until (within round) end.0 end.1
