use Rattle.run_health.proofs.Along.{sends_few, sends_fine}
use Rattle.run_health.proofs.laws.events_send_little.Goals as goal

pub returns-clause-few : goal.returns-clause-few
returns-clause-few g c = λ b plan until kept line net fits in_time n e writer here.
    sends_few (g.B.Behaviour.reaction b) (g.B.Behaviour.valid b) (g.B.Behaviour.carried b) (g.met.B.Behaviour.sound b) (g.met.B.Behaviour.modest b) plan until in_time fits kept n e here.is writer here.at

pub returns-clause-own : goal.returns-clause-own
returns-clause-own g c = λ b plan until kept line net fits in_time n e writer here s a.
    (sends_fine (g.B.Behaviour.reaction b) (g.B.Behaviour.valid b) (g.B.Behaviour.carried b) (g.met.B.Behaviour.sound b) (g.met.B.Behaviour.modest b) plan until in_time fits kept n e here.is writer here.at s a).0

pub returns-clause-entity : goal.returns-clause-entity
returns-clause-entity g c = λ b plan until kept line net fits in_time n e writer here s a.
    (sends_fine (g.B.Behaviour.reaction b) (g.B.Behaviour.valid b) (g.B.Behaviour.carried b) (g.met.B.Behaviour.sound b) (g.met.B.Behaviour.modest b) plan until in_time fits kept n e here.is writer here.at s a).1

pub returns-clause-delay : goal.returns-clause-delay
returns-clause-delay g c = λ b plan until kept line net fits in_time n e writer here s a.
    (sends_fine (g.B.Behaviour.reaction b) (g.B.Behaviour.valid b) (g.B.Behaviour.carried b) (g.met.B.Behaviour.sound b) (g.met.B.Behaviour.modest b) plan until in_time fits kept n e here.is writer here.at s a).2
