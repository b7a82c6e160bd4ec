use Rattle.share_rules.proofs.Closes.{timeline_home, barrier_home, together, run_still, since_key, safe_rises}
use Rattle.share_rules.proofs.laws.parts_at_home_are_sound_together.Goals as goal

pub returns-clause-sound : goal.returns-clause-sound
returns-clause-sound g c = λ b key core f same home. together (g.B.Behaviour.valid b) (g.B.Behaviour.carried b) (g.B.Behaviour.reaction b) key core f home same

pub returns-clause-run : goal.returns-clause-run
returns-clause-run g c = λ b key core f same home. run_still (g.B.Behaviour.valid b) (g.B.Behaviour.carried b) (g.B.Behaviour.reaction b) key core f home same

pub returns-clause-crosses : goal.returns-clause-crosses
returns-clause-crosses g c = λ b key core f home i t own. (timeline_home (g.B.Behaviour.valid b) (g.B.Behaviour.carried b) (g.B.Behaviour.reaction b) key core f home i t own).0.crosses

pub returns-clause-since : goal.returns-clause-since
returns-clause-since g c = λ b key core f home. since_key (g.B.Behaviour.valid b) (g.B.Behaviour.carried b) (g.B.Behaviour.reaction b) key core f home

pub returns-clause-safe : goal.returns-clause-safe
returns-clause-safe g c = λ b key core f same home. safe_rises (g.B.Behaviour.valid b) (g.B.Behaviour.carried b) (g.B.Behaviour.reaction b) key core f home same

pub returns-clause-round : goal.returns-clause-round
returns-clause-round g c = λ b key core f home. (barrier_home (g.B.Behaviour.valid b) (g.B.Behaviour.carried b) (g.B.Behaviour.reaction b) key core f home).0.round
