use Rattle.sync_facts.proofs.Nets.{aligned_net}
use Rattle.sync_facts.proofs.laws.plans_have_aligned_nets.Goals as goal

pub returns : goal.returns
returns g c = λ b plan line timelines threshold fits. aligned_net (g.B.Behaviour.valid b) (g.B.Behaviour.carried b) plan fits line timelines threshold
