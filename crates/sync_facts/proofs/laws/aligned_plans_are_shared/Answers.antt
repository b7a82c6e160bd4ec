use Rattle.sync_facts.proofs.Shares.{shared, shared_within}
use Rattle.sync_facts.proofs.laws.aligned_plans_are_shared.Goals as goal

pub returns-clause-cut : goal.returns-clause-cut
returns-clause-cut g c = λ b plan until line net fits in_time is most.
    shared_within (g.B.Behaviour.reaction b) (g.B.Behaviour.valid b) (g.B.Behaviour.carried b) (g.met.B.Behaviour.sound b) (g.met.B.Behaviour.modest b) plan until in_time fits line net is most

pub returns-clause-end : goal.returns-clause-end
returns-clause-end g c = λ b plan until line net fits in_time is kept keeps end ended.
    shared (g.B.Behaviour.reaction b) (g.B.Behaviour.valid b) (g.B.Behaviour.carried b) (g.met.B.Behaviour.sound b) (g.met.B.Behaviour.modest b) plan until in_time fits kept line net is keeps end ended
