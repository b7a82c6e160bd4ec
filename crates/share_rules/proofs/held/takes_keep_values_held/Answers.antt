use Rattle.share_rules.proofs.Taking.{taken_held, taken_count, taken_mail_held, taken_joined, taken_rises, taken_noted}
use Rattle.share_rules.proofs.held.takes_keep_values_held.Goals as goal

pub returns-clause-timeline : goal.returns-clause-timeline
returns-clause-timeline g c = λ b key run n m i t after x x_after held mail one two q. (taken_held (g.B.Behaviour.valid b) (g.B.Behaviour.carried b) (g.B.Behaviour.reaction b) (g.met.B.Behaviour.sound b) (g.met.B.Behaviour.modest b) key run n m i t x held mail one two after x_after q, taken_count (g.B.Behaviour.valid b) (g.B.Behaviour.carried b) (g.B.Behaviour.reaction b) (g.met.B.Behaviour.sound b) (g.met.B.Behaviour.modest b) key run n m i t x held mail one two after x_after q)

pub returns-clause-mail : goal.returns-clause-mail
returns-clause-mail g c = λ b key run n m i t after x x_after held mail one two q. taken_mail_held (g.B.Behaviour.valid b) (g.B.Behaviour.carried b) (g.B.Behaviour.reaction b) (g.met.B.Behaviour.sound b) (g.met.B.Behaviour.modest b) key run n m i t x held mail one two after x_after q

pub returns-clause-joined : goal.returns-clause-joined
returns-clause-joined g c = λ b key run n m i t after x x_after held mail one two q. taken_joined (g.B.Behaviour.valid b) (g.B.Behaviour.carried b) (g.B.Behaviour.reaction b) (g.met.B.Behaviour.sound b) (g.met.B.Behaviour.modest b) key run n m i t x held mail one two after x_after q

pub returns-clause-rises : goal.returns-clause-rises
returns-clause-rises g c = λ b key run n m i t after x x_after held mail one two q. taken_rises (g.B.Behaviour.valid b) (g.B.Behaviour.carried b) (g.B.Behaviour.reaction b) (g.met.B.Behaviour.sound b) (g.met.B.Behaviour.modest b) key run n m i t x held mail one two after x_after q

pub returns-clause-noted : goal.returns-clause-noted
returns-clause-noted g c = λ b key run n m i t after x x_after held mail one two q. taken_noted (g.B.Behaviour.valid b) (g.B.Behaviour.carried b) (g.B.Behaviour.reaction b) (g.met.B.Behaviour.sound b) (g.met.B.Behaviour.modest b) key run n m i t x held mail one two after x_after q
