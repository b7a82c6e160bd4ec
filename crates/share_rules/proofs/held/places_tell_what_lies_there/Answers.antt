use Rattle.share_rules.proofs.Holding.{place_of_timeline, place_of_mail, place_of_barrier}
use Rattle.share_rules.proofs.held.places_tell_what_lies_there.Goals as goal

pub returns-clause-timeline : goal.returns-clause-timeline
returns-clause-timeline g c = λ b key. place_of_timeline (g.B.Behaviour.valid b) (g.B.Behaviour.carried b) (g.B.Behaviour.reaction b) key

pub returns-clause-mail : goal.returns-clause-mail
returns-clause-mail g c = λ b key. place_of_mail (g.B.Behaviour.valid b) (g.B.Behaviour.carried b) (g.B.Behaviour.reaction b) key

pub returns-clause-barrier : goal.returns-clause-barrier
returns-clause-barrier g c = λ b key. place_of_barrier (g.B.Behaviour.valid b) (g.B.Behaviour.carried b) (g.B.Behaviour.reaction b) key
