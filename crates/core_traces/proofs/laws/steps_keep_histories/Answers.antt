use Rattle.core_traces.proofs.Keeps.{on_own, leads_on, leads_safe}
use Rattle.core_traces.proofs.laws.steps_keep_histories.Goals as goal

pub returns-clause-core : goal.returns-clause-core
returns-clause-core g c = λ b plan until kept line net fits in_time budget core from q after steps grown.
    let lead = steps plan until kept line net fits in_time q.at q.before (on_own (g.B.Behaviour.reaction b) (g.B.Behaviour.valid b) (g.B.Behaviour.carried b) (g.met.B.Behaviour.sound b) (g.met.B.Behaviour.modest b) plan until in_time fits kept line net budget core from q) q.sound in
    leads_on (g.B.Behaviour.reaction b) (g.B.Behaviour.valid b) (g.B.Behaviour.carried b) (g.met.B.Behaviour.sound b) (g.met.B.Behaviour.modest b) plan until in_time fits kept line net budget core from q after lead.0 lead.1 grown

pub returns-clause-safe : goal.returns-clause-safe
returns-clause-safe g c = λ b plan until kept line net fits in_time budget core from q after steps.
    let lead = steps plan until kept line net fits in_time q.at q.before (on_own (g.B.Behaviour.reaction b) (g.B.Behaviour.valid b) (g.B.Behaviour.carried b) (g.met.B.Behaviour.sound b) (g.met.B.Behaviour.modest b) plan until in_time fits kept line net budget core from q) q.sound in
    leads_safe (g.B.Behaviour.reaction b) (g.B.Behaviour.valid b) (g.B.Behaviour.carried b) (g.met.B.Behaviour.sound b) (g.met.B.Behaviour.modest b) plan until in_time fits kept line net budget core from q after lead.0 lead.1
