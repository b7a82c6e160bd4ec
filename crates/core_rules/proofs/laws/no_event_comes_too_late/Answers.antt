use Rattle.core_rules.proofs.Reading.{comes_late, comes_after, after_history}
use Rattle.core_rules.proofs.laws.no_event_comes_too_late.Goals as goal

pub returns-clause-late : goal.returns-clause-late
returns-clause-late g c = λ b plan until kept line net fits in_time core at v on sound i t mail own its e a.
    comes_late (g.B.Behaviour.reaction b) (g.B.Behaviour.valid b) (g.B.Behaviour.carried b) (g.met.B.Behaviour.sound b) (g.met.B.Behaviour.modest b) plan until in_time fits kept line net core at v on sound i t own mail its e a

pub returns-clause-after : goal.returns-clause-after
returns-clause-after g c = λ b plan until kept line net fits in_time core at v on sound i t mail own its j d e below is mine a.
    comes_after (g.B.Behaviour.reaction b) (g.B.Behaviour.valid b) (g.B.Behaviour.carried b) (g.met.B.Behaviour.sound b) (g.met.B.Behaviour.modest b) plan until in_time fits kept line net core at v on sound i t own mail its j d e below is mine a

pub returns-clause-history : goal.returns-clause-history
returns-clause-history g c = λ b plan until kept line net fits in_time core at v on sound i t mail own its x e among a.
    after_history (g.B.Behaviour.reaction b) (g.B.Behaviour.valid b) (g.B.Behaviour.carried b) (g.met.B.Behaviour.sound b) (g.met.B.Behaviour.modest b) plan until in_time fits kept line net core at v on sound i t own mail its x e among a
