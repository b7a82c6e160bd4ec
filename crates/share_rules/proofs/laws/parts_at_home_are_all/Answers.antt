use Rattle.share_rules.proofs.Closes.{same_many, same_mails}
use Rattle.share_rules.proofs.laws.parts_at_home_are_all.Goals as goal

pub returns-clause-timelines : goal.returns-clause-timelines
returns-clause-timelines g c = λ b key core f home. same_many (g.B.Behaviour.valid b) (g.B.Behaviour.carried b) (g.B.Behaviour.reaction b) key core f home

pub returns-clause-mails : goal.returns-clause-mails
returns-clause-mails g c = λ b key core f home. same_mails (g.B.Behaviour.valid b) (g.B.Behaviour.carried b) (g.B.Behaviour.reaction b) key core f home
