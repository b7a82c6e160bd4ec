use Rattle.share_rules.proofs.Moving.{posted_held, posted_mail_held, posted_joined, posted_rises, posted_noted, posted_mail_noted}
use Rattle.share_rules.proofs.held.posts_keep_values_held.Goals as goal

pub returns-clause-timeline : goal.returns-clause-timeline
returns-clause-timeline g c = λ b key m k end t after x x_after found held q. posted_held (g.B.Behaviour.valid b) (g.B.Behaviour.carried b) (g.B.Behaviour.reaction b) (g.met.B.Behaviour.sound b) (g.met.B.Behaviour.modest b) key k end t after x x_after found q m held

pub returns-clause-mail : goal.returns-clause-mail
returns-clause-mail g c = λ b key n m k end t after x x_after found held mail one two q. posted_mail_held (g.B.Behaviour.valid b) (g.B.Behaviour.carried b) (g.B.Behaviour.reaction b) (g.met.B.Behaviour.sound b) (g.met.B.Behaviour.modest b) key k end t after x x_after found q n m held mail one two

pub returns-clause-joined : goal.returns-clause-joined
returns-clause-joined g c = λ b key run n m k end t after x x_after found held one two q. posted_joined (g.B.Behaviour.valid b) (g.B.Behaviour.carried b) (g.B.Behaviour.reaction b) (g.met.B.Behaviour.sound b) (g.met.B.Behaviour.modest b) key k end t after x x_after found q run m held n one two

pub returns-clause-rises : goal.returns-clause-rises
returns-clause-rises g c = λ b key run m k end t after x x_after found held q. posted_rises (g.B.Behaviour.valid b) (g.B.Behaviour.carried b) (g.B.Behaviour.reaction b) (g.met.B.Behaviour.sound b) (g.met.B.Behaviour.modest b) key k end t after x x_after found q run m held

pub returns-clause-noted : goal.returns-clause-noted
returns-clause-noted g c = λ b key run n k end t after x x_after found one q. posted_noted (g.B.Behaviour.valid b) (g.B.Behaviour.carried b) (g.B.Behaviour.reaction b) (g.met.B.Behaviour.sound b) (g.met.B.Behaviour.modest b) key k end t after x x_after found q run n one

pub returns-clause-mail_noted : goal.returns-clause-mail_noted
returns-clause-mail_noted g c = λ b key run n k end t after x x_after found two q. posted_mail_noted (g.B.Behaviour.valid b) (g.B.Behaviour.carried b) (g.B.Behaviour.reaction b) (g.met.B.Behaviour.sound b) (g.met.B.Behaviour.modest b) key k end t after x x_after found q run n two
