use Rattle.share_rules.proofs.Taking.{sender_known, receiver_known, ends_apart, mails_many}
use Rattle.share_rules.proofs.held.ends_are_there.Goals as goal

pub returns-clause-sender : goal.returns-clause-sender
returns-clause-sender g c = λ b key run. sender_known (g.B.Behaviour.valid b) (g.B.Behaviour.carried b) (g.B.Behaviour.reaction b) (g.met.B.Behaviour.sound b) (g.met.B.Behaviour.modest b) key run

pub returns-clause-receiver : goal.returns-clause-receiver
returns-clause-receiver g c = λ b key run. receiver_known (g.B.Behaviour.valid b) (g.B.Behaviour.carried b) (g.B.Behaviour.reaction b) (g.met.B.Behaviour.sound b) (g.met.B.Behaviour.modest b) key run

pub returns-clause-apart : goal.returns-clause-apart
returns-clause-apart g c = λ b key run. ends_apart (g.B.Behaviour.valid b) (g.B.Behaviour.carried b) (g.B.Behaviour.reaction b) (g.met.B.Behaviour.sound b) (g.met.B.Behaviour.modest b) key run

pub returns-clause-mails : goal.returns-clause-mails
returns-clause-mails g c = λ b key run. mails_many (g.B.Behaviour.valid b) (g.B.Behaviour.carried b) (g.B.Behaviour.reaction b) (g.met.B.Behaviour.sound b) (g.met.B.Behaviour.modest b) key run
