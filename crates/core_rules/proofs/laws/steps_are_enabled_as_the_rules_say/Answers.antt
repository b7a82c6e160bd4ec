use Rattle.core_rules.proofs.Reading.{may_step, enables}
use Rattle.core_rules.proofs.laws.steps_are_enabled_as_the_rules_say.Goals as goal

pub returns-clause-may : goal.returns-clause-may
returns-clause-may g c = λ b plan until kept line net fits in_time core at v on sound step h.
    may_step (g.B.Behaviour.reaction b) (g.B.Behaviour.valid b) (g.B.Behaviour.carried b) (g.met.B.Behaviour.sound b) (g.met.B.Behaviour.modest b) plan until in_time fits kept line net core at v on sound step h

pub returns-clause-enables : goal.returns-clause-enables
returns-clause-enables g c = λ b plan until kept line net fits in_time core at v on sound step may.
    enables (g.B.Behaviour.reaction b) (g.B.Behaviour.valid b) (g.B.Behaviour.carried b) (g.met.B.Behaviour.sound b) (g.met.B.Behaviour.modest b) plan until in_time fits kept line net core at v on sound step may
