use Rattle.std.proofs.Common.{ap}
use Rattle.share_rules.proofs.Moving.{executed_held, spent_held, executed_noted, spent_noted}
use Rattle.share_rules.proofs.held.executions_keep_timelines_held.Goals as goal

pub returns-clause-held : goal.returns-clause-held
returns-clause-held g c = λ b key run m i t after held q. executed_held (g.B.Behaviour.valid b) (g.B.Behaviour.carried b) (g.B.Behaviour.reaction b) (g.met.B.Behaviour.sound b) (g.met.B.Behaviour.modest b) key i t after q run m held

pub returns-clause-noted : goal.returns-clause-noted
returns-clause-noted g c = λ b key n i t after. executed_noted (g.B.Behaviour.reaction b) key n i t after

pub returns-clause-executed : goal.returns-clause-executed
returns-clause-executed g c = λ b t after q. ap (λ z. z.executed) q.run.is

pub returns-clause-spent : goal.returns-clause-spent
returns-clause-spent g c = λ b key n m i t after held noted free is order. (spent_held (g.B.Behaviour.valid b) (g.B.Behaviour.carried b) (g.B.Behaviour.reaction b) (g.met.B.Behaviour.sound b) (g.met.B.Behaviour.modest b) key m i t after held free is order, spent_noted (g.B.Behaviour.reaction b) key n i t after is noted, ap (λ z. z.executed) is)
