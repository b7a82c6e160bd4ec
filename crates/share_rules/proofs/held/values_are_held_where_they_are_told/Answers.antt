use Rattle.share_rules.proofs.Holding.{told_timeline, told_mail, told_barrier, told_passed}
use Rattle.share_rules.proofs.held.values_are_held_where_they_are_told.Goals as goal

pub returns-clause-timeline : goal.returns-clause-timeline
returns-clause-timeline g c = λ b key. told_timeline (g.B.Behaviour.valid b) (g.B.Behaviour.carried b) (g.B.Behaviour.reaction b) key

pub returns-clause-mail : goal.returns-clause-mail
returns-clause-mail g c = λ b key. told_mail (g.B.Behaviour.valid b) (g.B.Behaviour.carried b) (g.B.Behaviour.reaction b) key

pub returns-clause-barrier : goal.returns-clause-barrier
returns-clause-barrier g c = λ b key. told_barrier (g.B.Behaviour.valid b) (g.B.Behaviour.carried b) (g.B.Behaviour.reaction b) key

pub returns-clause-passed : goal.returns-clause-passed
returns-clause-passed g c = λ b key. told_passed (g.B.Behaviour.valid b) (g.B.Behaviour.carried b) (g.B.Behaviour.reaction b) key
