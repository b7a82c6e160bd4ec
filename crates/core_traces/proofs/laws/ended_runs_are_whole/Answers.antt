use Rattle.core_traces.proofs.Ends.{ended_whole, ended_few, ended_windows}
use Rattle.core_traces.proofs.laws.ended_runs_are_whole.Goals as goal

pub returns-clause-whole : goal.returns-clause-whole
returns-clause-whole g c = λ b plan until kept line net fits in_time budget core from q ended entries p.
    ended_whole (g.B.Behaviour.reaction b) (g.B.Behaviour.valid b) (g.B.Behaviour.carried b) (g.met.B.Behaviour.sound b) (g.met.B.Behaviour.modest b) plan until in_time fits kept line net budget core from q ended entries p

pub returns-clause-few : goal.returns-clause-few
returns-clause-few g c = λ b plan until kept line net fits in_time budget core from q ended.
    ended_few (g.B.Behaviour.reaction b) (g.B.Behaviour.valid b) (g.B.Behaviour.carried b) (g.met.B.Behaviour.sound b) (g.met.B.Behaviour.modest b) plan until in_time fits kept line net budget core from q ended

pub returns-clause-windows : goal.returns-clause-windows
returns-clause-windows g c = λ b plan until kept line net fits in_time budget core from q ended.
    ended_windows (g.B.Behaviour.reaction b) (g.B.Behaviour.valid b) (g.B.Behaviour.carried b) (g.met.B.Behaviour.sound b) (g.met.B.Behaviour.modest b) plan until in_time fits kept line net budget core from q ended
