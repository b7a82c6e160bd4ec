use Rattle.core_rules.proofs.Reading.{safe_same, safe_reached, ended_reached}
use Rattle.core_rules.proofs.laws.bounds_and_windows_hold.Goals as goal

pub returns-clause-safe : goal.returns-clause-safe
returns-clause-safe g c = λ b plan until kept line net fits in_time core at v on sound.
    safe_same (g.B.Behaviour.reaction b) (g.B.Behaviour.valid b) (g.B.Behaviour.carried b) (g.met.B.Behaviour.sound b) (g.met.B.Behaviour.modest b) plan until in_time fits kept line net core at v on sound

pub returns-clause-reached : goal.returns-clause-reached
returns-clause-reached g c = λ b plan until kept line net fits in_time core at v on sound.
    safe_reached (g.B.Behaviour.reaction b) (g.B.Behaviour.valid b) (g.B.Behaviour.carried b) (g.met.B.Behaviour.sound b) (g.met.B.Behaviour.modest b) plan until in_time fits kept line net core at v on sound

pub returns-clause-window : goal.returns-clause-window
returns-clause-window g c = λ b plan until kept line net fits in_time core at v on sound.
    sound.all.barrier.window

pub returns-clause-ended : goal.returns-clause-ended
returns-clause-ended g c = λ b plan until kept line net fits in_time core at v on sound ended j e is.
    ended_reached (g.B.Behaviour.reaction b) (g.B.Behaviour.valid b) (g.B.Behaviour.carried b) (g.met.B.Behaviour.sound b) (g.met.B.Behaviour.modest b) plan until in_time fits kept line net core at v on sound ended j e is

pub returns-clause-history : goal.returns-clause-history
returns-clause-history g c = λ b plan until kept line net fits in_time core at v on sound i t own.
    (let part = sound.each i t own in (part.sound.given_up, part.sound.history))
