use Rattle.core_traces.proofs.Unreported.{from_core, grown_from, steps_low, steps_from, left_from}
use Rattle.core_traces.proofs.laws.sound_parts_keep_histories.Goals as goal

pub returns-clause-from : goal.returns-clause-from
returns-clause-from g c = λ b plan until kept line net fits in_time budget core from q. from_core (g.B.Behaviour.reaction b) (g.B.Behaviour.valid b) (g.B.Behaviour.carried b) (g.met.B.Behaviour.sound b) (g.met.B.Behaviour.modest b) plan until in_time fits kept line net budget core from q

pub returns-clause-grown : goal.returns-clause-grown
returns-clause-grown g c = λ b plan until kept line net fits in_time budget core from q after at v sound most grown up. grown_from (g.B.Behaviour.reaction b) (g.B.Behaviour.valid b) (g.B.Behaviour.carried b) (g.met.B.Behaviour.sound b) (g.met.B.Behaviour.modest b) plan until in_time fits kept line net budget core from q after at v sound most grown up

pub returns-clause-steps : goal.returns-clause-steps
returns-clause-steps g c = λ b plan until kept line net fits in_time budget core from q after steps grown. steps_from (g.B.Behaviour.reaction b) (g.B.Behaviour.valid b) (g.B.Behaviour.carried b) (g.met.B.Behaviour.sound b) (g.met.B.Behaviour.modest b) plan until in_time fits kept line net budget core from q after steps grown

pub returns-clause-safe : goal.returns-clause-safe
returns-clause-safe g c = λ b plan until kept line net fits in_time budget core from q after steps. steps_low (g.B.Behaviour.reaction b) (g.B.Behaviour.valid b) (g.B.Behaviour.carried b) (g.met.B.Behaviour.sound b) (g.met.B.Behaviour.modest b) plan until in_time fits kept line net budget core from q after steps

pub returns-clause-given_up : goal.returns-clause-given_up
returns-clause-given_up g c = λ b plan until kept line net fits in_time budget core from q below order safe. left_from (g.B.Behaviour.reaction b) (g.B.Behaviour.valid b) (g.B.Behaviour.carried b) (g.met.B.Behaviour.sound b) (g.met.B.Behaviour.modest b) plan until in_time fits kept line net budget core from q below order safe
