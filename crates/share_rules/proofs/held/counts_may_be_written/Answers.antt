use Rattle.share_rules.proofs.Holding.{written_posted, written_taken, written_done}
use Rattle.share_rules.proofs.Barriers.{written_round}
use Rattle.share_rules.proofs.held.counts_may_be_written.Goals as goal

pub returns-clause-posted : goal.returns-clause-posted
returns-clause-posted g c = λ b key. written_posted (g.B.Behaviour.valid b) (g.B.Behaviour.carried b) (g.B.Behaviour.reaction b) key

pub returns-clause-taken : goal.returns-clause-taken
returns-clause-taken g c = λ b key. written_taken (g.B.Behaviour.valid b) (g.B.Behaviour.carried b) (g.B.Behaviour.reaction b) key

pub returns-clause-done : goal.returns-clause-done
returns-clause-done g c = λ b key. written_done (g.B.Behaviour.valid b) (g.B.Behaviour.carried b) (g.B.Behaviour.reaction b) key

pub returns-clause-round : goal.returns-clause-round
returns-clause-round g c = λ b key n m bar held noted. written_round (g.B.Behaviour.valid b) (g.B.Behaviour.carried b) (g.B.Behaviour.reaction b) key m bar held n noted
