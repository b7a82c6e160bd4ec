use Rattle.share_rules.proofs.Holding.{timeline_stays, barrier_stays, noted_stays, mail_noted_stays}
use Rattle.share_rules.proofs.held.values_stay_held.Goals as goal

pub returns-clause-timeline : goal.returns-clause-timeline
returns-clause-timeline g c = λ b key. timeline_stays (g.B.Behaviour.valid b) (g.B.Behaviour.carried b) (g.B.Behaviour.reaction b) key

pub returns-clause-barrier : goal.returns-clause-barrier
returns-clause-barrier g c = λ b key. barrier_stays (g.B.Behaviour.valid b) (g.B.Behaviour.carried b) (g.B.Behaviour.reaction b) key

pub returns-clause-noted : goal.returns-clause-noted
returns-clause-noted g c = λ key. noted_stays key

pub returns-clause-mail_noted : goal.returns-clause-mail_noted
returns-clause-mail_noted g c = λ key. mail_noted_stays key
