use Rattle.timeline.proofs.Opened.{first_as, first_sound}
use Rattle.timeline.proofs.laws.timelines_begin_sound.Goals as goal

pub returns-clause-line : goal.returns-clause-line
returns-clause-line g c = λ b plan until kept line net fits in_time i budget part t on q.
    first_as (g.B.Behaviour.reaction b) plan until kept line net (g.B.Behaviour.valid b) (g.B.Behaviour.carried b) fits in_time on.shared i budget q.budget_low part q.share q.ordered t q.first

pub returns-clause-sound : goal.returns-clause-sound
returns-clause-sound g c = λ b plan until kept line net fits in_time i budget part t on q.
    first_sound (g.B.Behaviour.reaction b) plan until kept line net (g.B.Behaviour.valid b) (g.B.Behaviour.carried b) fits in_time on.shared i budget q.budget_low part q.share q.ordered t q.first
