use Rattle.share_rules.proofs.Opens.{counts_long, opens}
use Rattle.share_rules.proofs.laws.parts_of_a_run_are_at_home.Goals as goal

pub returns-clause-counts : goal.returns-clause-counts
returns-clause-counts g c = λ core. counts_long core

pub returns-clause-home : goal.returns-clause-home
returns-clause-home g c = λ b core run crosses. opens (g.B.Behaviour.valid b) (g.B.Behaviour.carried b) (g.B.Behaviour.reaction b) core run crosses
