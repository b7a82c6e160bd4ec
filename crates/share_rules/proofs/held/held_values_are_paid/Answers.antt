use Rattle.share_rules.proofs.Holding.{paid_timeline, paid_mail, paid_barrier}
use Rattle.share_rules.proofs.held.held_values_are_paid.Goals as goal

pub returns-clause-timeline : goal.returns-clause-timeline
returns-clause-timeline g c = λ b key. paid_timeline (g.B.Behaviour.valid b) (g.B.Behaviour.carried b) (g.B.Behaviour.reaction b) key

pub returns-clause-mail : goal.returns-clause-mail
returns-clause-mail g c = λ b key. paid_mail (g.B.Behaviour.valid b) (g.B.Behaviour.carried b) (g.B.Behaviour.reaction b) key

pub returns-clause-barrier : goal.returns-clause-barrier
returns-clause-barrier g c = λ b key. paid_barrier (g.B.Behaviour.valid b) (g.B.Behaviour.carried b) (g.B.Behaviour.reaction b) key
