use Rattle.core_traces.proofs.Keeps.{gives_up}
use Rattle.core_traces.proofs.laws.entries_are_given_up.Goals as goal

pub returns : goal.returns
returns g c = λ b plan until kept line net fits in_time budget core from q below order safe.
    gives_up (g.B.Behaviour.reaction b) (g.B.Behaviour.valid b) (g.B.Behaviour.carried b) (g.met.B.Behaviour.sound b) (g.met.B.Behaviour.modest b) plan until in_time fits kept line net budget core from q below order safe
