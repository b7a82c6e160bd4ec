use Rattle.share_rules.proofs.Barriers.{crossed_held, round_rises, crossed_passed}
use Rattle.share_rules.proofs.held.crossings_keep_barriers_held.Goals as goal

pub returns-clause-held : goal.returns-clause-held
returns-clause-held g c = λ b key run m bar held. crossed_held (g.B.Behaviour.valid b) (g.B.Behaviour.carried b) (g.B.Behaviour.reaction b) key m bar held run

pub returns-clause-round : goal.returns-clause-round
returns-clause-round g c = λ b key run m bar held. round_rises (g.B.Behaviour.valid b) (g.B.Behaviour.carried b) (g.B.Behaviour.reaction b) key m bar held run

pub returns-clause-passed : goal.returns-clause-passed
returns-clause-passed g c = λ b key m bar held. crossed_passed (g.B.Behaviour.valid b) (g.B.Behaviour.carried b) (g.B.Behaviour.reaction b) key m bar held
