use Rattle.timeline.proofs.Executed.{can_execute, may_execute, is_over_here, is_over_if}
use Rattle.timeline.proofs.laws.timelines_may_as_the_rules_say.Goals as goal

pub returns-clause-execute : goal.returns-clause-execute
returns-clause-execute g c = λ b plan until kept line net fits in_time i m t on sound.
    can_execute (g.B.Behaviour.reaction b) (g.B.Behaviour.valid b) (g.B.Behaviour.carried b) (g.met.B.Behaviour.sound b) (g.met.B.Behaviour.modest b) plan until in_time fits kept line net i m t on sound

pub returns-clause-executes : goal.returns-clause-executes
returns-clause-executes g c = λ b plan until kept line net fits in_time i m t on sound.
    may_execute (g.B.Behaviour.reaction b) (g.B.Behaviour.valid b) (g.B.Behaviour.carried b) (g.met.B.Behaviour.sound b) (g.met.B.Behaviour.modest b) plan until in_time fits kept line net i m t on sound

pub returns-clause-over : goal.returns-clause-over
returns-clause-over g c = λ b plan until kept line net fits in_time i m t on sound.
    is_over_here (g.B.Behaviour.reaction b) (g.B.Behaviour.valid b) (g.B.Behaviour.carried b) (g.met.B.Behaviour.sound b) (g.met.B.Behaviour.modest b) plan until in_time fits kept line net i m t on sound

pub returns-clause-is_over : goal.returns-clause-is_over
returns-clause-is_over g c = λ b plan until kept line net fits in_time i m t on sound.
    is_over_if (g.B.Behaviour.reaction b) (g.B.Behaviour.valid b) (g.B.Behaviour.carried b) (g.met.B.Behaviour.sound b) (g.met.B.Behaviour.modest b) plan until in_time fits kept line net i m t on sound
