use Rattle.run_health.proofs.Along.{tickets_fit, round_fits, counts_fit, times_fit}
use Rattle.run_health.proofs.laws.numbers_stay_in_range.Goals as goal

pub returns-clause-tickets : goal.returns-clause-tickets
returns-clause-tickets g c = λ b plan until kept line net fits in_time n e entity here early.
    tickets_fit (g.B.Behaviour.reaction b) (g.B.Behaviour.valid b) (g.B.Behaviour.carried b) (g.met.B.Behaviour.sound b) (g.met.B.Behaviour.modest b) plan until in_time fits kept line early.aligned n e here.is entity here.at early.few

pub returns-clause-round : goal.returns-clause-round
returns-clause-round g c = λ b plan until kept line net fits in_time n e entity here early.
    round_fits (g.B.Behaviour.reaction b) (g.B.Behaviour.valid b) (g.B.Behaviour.carried b) (g.met.B.Behaviour.sound b) (g.met.B.Behaviour.modest b) plan until in_time fits kept line early.aligned n e here.is entity here.at early.few

pub returns-clause-counts : goal.returns-clause-counts
returns-clause-counts g c = λ b plan until kept line net fits in_time n e entity here early.
    counts_fit (g.B.Behaviour.reaction b) (g.B.Behaviour.valid b) (g.B.Behaviour.carried b) (g.met.B.Behaviour.sound b) (g.met.B.Behaviour.modest b) plan until in_time fits kept line early.aligned n e here.is entity here.at early.few

pub returns-clause-times : goal.returns-clause-times
returns-clause-times g c = λ b plan until kept line net fits in_time n e entity here.
    times_fit (g.B.Behaviour.reaction b) (g.B.Behaviour.valid b) (g.B.Behaviour.carried b) (g.met.B.Behaviour.sound b) (g.met.B.Behaviour.modest b) plan until in_time fits kept n e here.is entity here.at
