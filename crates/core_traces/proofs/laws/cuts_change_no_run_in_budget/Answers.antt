use Rattle.core_traces.proofs.Cuts.{same_whole, same_windows}
use Rattle.core_traces.proofs.laws.cuts_change_no_run_in_budget.Goals as goal

pub returns-clause-entries : goal.returns-clause-entries
returns-clause-entries g c = λ b plan until kept line net fits in_time aligned budget other few here there entries p.
    same_whole (g.B.Behaviour.reaction b) (g.B.Behaviour.valid b) (g.B.Behaviour.carried b) (g.met.B.Behaviour.sound b) (g.met.B.Behaviour.modest b) plan until in_time fits kept other line net aligned budget few here there entries p

pub returns-clause-windows : goal.returns-clause-windows
returns-clause-windows g c = λ b plan until kept line net fits in_time aligned budget other few here there count last p.
    same_windows (g.B.Behaviour.reaction b) (g.B.Behaviour.valid b) (g.B.Behaviour.carried b) (g.met.B.Behaviour.sound b) (g.met.B.Behaviour.modest b) plan until in_time fits kept other line net aligned budget few here there count last p
