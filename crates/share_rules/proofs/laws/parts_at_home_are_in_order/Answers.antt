use Rattle.share_rules.proofs.Gathering.{still_in_time, still_rising, same_until}
use Rattle.share_rules.proofs.laws.parts_at_home_are_in_order.Goals as goal

pub returns-clause-in_time : goal.returns-clause-in_time
returns-clause-in_time g c = λ b key core same run. still_in_time (g.B.Behaviour.valid b) (g.B.Behaviour.carried b) (g.B.Behaviour.reaction b) key core same run

pub returns-clause-rising : goal.returns-clause-rising
returns-clause-rising g c = λ b key core same run. still_rising (g.B.Behaviour.valid b) (g.B.Behaviour.carried b) (g.B.Behaviour.reaction b) key core same run

pub returns-clause-until : goal.returns-clause-until
returns-clause-until g c = λ b key core f same home run. same_until (g.B.Behaviour.valid b) (g.B.Behaviour.carried b) (g.B.Behaviour.reaction b) key core same run f home
