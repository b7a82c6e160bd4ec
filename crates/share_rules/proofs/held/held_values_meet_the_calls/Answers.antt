use Rattle.std.proofs.Common.{refl, arith}
use Rattle.sync_steps.proofs.Allowed.{crosses_have_ends}
use Rattle.share_rules.proofs.Taking.{until_same, may_execute, out_there, mail_contains, mail_own, events_new, reports_many, outs_known}
use Rattle.share_rules.proofs.held.held_values_meet_the_calls.Goals as goal

pub returns-clause-until : goal.returns-clause-until
returns-clause-until g c = λ b key run m i t held. until_same (g.B.Behaviour.valid b) (g.B.Behaviour.carried b) (g.B.Behaviour.reaction b) (g.met.B.Behaviour.sound b) (g.met.B.Behaviour.modest b) key run m i t held

pub returns-clause-execute : goal.returns-clause-execute
returns-clause-execute g c = λ b key run m i t held. may_execute (g.B.Behaviour.valid b) (g.B.Behaviour.carried b) (g.B.Behaviour.reaction b) (g.met.B.Behaviour.sound b) (g.met.B.Behaviour.modest b) key run m i t held

pub returns-clause-out : goal.returns-clause-out
returns-clause-out g c = λ b key run m i t held. out_there (g.B.Behaviour.valid b) (g.B.Behaviour.carried b) (g.B.Behaviour.reaction b) (g.met.B.Behaviour.sound b) (g.met.B.Behaviour.modest b) key run m i t held

pub returns-clause-mail : goal.returns-clause-mail
returns-clause-mail g c = λ b key run i x mail. mail_contains (g.B.Behaviour.valid b) (g.B.Behaviour.carried b) (g.B.Behaviour.reaction b) (g.met.B.Behaviour.sound b) (g.met.B.Behaviour.modest b) key run i x mail

pub returns-clause-joined : goal.returns-clause-joined
returns-clause-joined g c = λ key n k end t x found one two. (let a = one.posted k end found refl in let b = two.posted k end found refl in omega (arith, a, b))

pub returns-clause-own : goal.returns-clause-own
returns-clause-own g c = λ b key run n m i t x held mail one two. mail_own (g.B.Behaviour.valid b) (g.B.Behaviour.carried b) (g.B.Behaviour.reaction b) (g.met.B.Behaviour.sound b) (g.met.B.Behaviour.modest b) key run n m i t x held mail one two

pub returns-clause-new : goal.returns-clause-new
returns-clause-new g c = λ b key run n m i t x held mail one two. events_new (g.B.Behaviour.valid b) (g.B.Behaviour.carried b) (g.B.Behaviour.reaction b) (g.met.B.Behaviour.sound b) (g.met.B.Behaviour.modest b) key run n m i t x held mail one two

pub returns-clause-number : goal.returns-clause-number
returns-clause-number g c = λ b key run m bar held. reports_many (g.B.Behaviour.valid b) (g.B.Behaviour.carried b) (g.B.Behaviour.reaction b) (g.met.B.Behaviour.sound b) (g.met.B.Behaviour.modest b) key run m bar held

pub returns-clause-ends : goal.returns-clause-ends
returns-clause-ends g c = λ b key m i t held. crosses_have_ends t held.at.crosses

pub returns-clause-cross : goal.returns-clause-cross
returns-clause-cross g c = λ b key run m i t bar held barrier. outs_known (g.B.Behaviour.valid b) (g.B.Behaviour.carried b) (g.B.Behaviour.reaction b) (g.met.B.Behaviour.sound b) (g.met.B.Behaviour.modest b) key run m i t held bar barrier
