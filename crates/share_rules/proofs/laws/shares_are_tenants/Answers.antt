use Rattle.share_rules.specs.HomeLaws.{stays, forgets, cleared, marks}
use Rattle.share_rules.proofs.laws.shares_are_tenants.Goals as goal

pub returns-clause-stays : goal.returns-clause-stays
returns-clause-stays g c = λ b key. stays (g.B.Behaviour.valid b) (g.B.Behaviour.carried b) (g.B.Behaviour.reaction b) key

pub returns-clause-forgets : goal.returns-clause-forgets
returns-clause-forgets g c = λ b key. forgets (g.B.Behaviour.valid b) (g.B.Behaviour.carried b) (g.B.Behaviour.reaction b) key

pub returns-clause-cleared : goal.returns-clause-cleared
returns-clause-cleared g c = λ b key. cleared (g.B.Behaviour.valid b) (g.B.Behaviour.carried b) (g.B.Behaviour.reaction b) key

pub returns-clause-marks : goal.returns-clause-marks
returns-clause-marks g c = λ b key. marks (g.B.Behaviour.valid b) (g.B.Behaviour.carried b) (g.B.Behaviour.reaction b) key
