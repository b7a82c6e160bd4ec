use Rattle.core_rules.proofs.Reading.{execute_asks, post_out, post_receiver, post_mail, post_joined, take_own, take_new, report_known, report_cross, report_ends}
use Rattle.core_rules.proofs.laws.sound_parts_meet_the_calls.Goals as goal

pub returns-clause-execute : goal.returns-clause-execute
returns-clause-execute g c = λ b plan until kept line net fits in_time core at v on sound i t own event rest first free.
    execute_asks (g.B.Behaviour.reaction b) (g.B.Behaviour.valid b) (g.B.Behaviour.carried b) (g.met.B.Behaviour.sound b) (g.met.B.Behaviour.modest b) plan until in_time fits kept line net core at v on sound i t own event rest first free

pub returns-clause-out : goal.returns-clause-out
returns-clause-out g c = λ b plan until kept line net fits in_time core at v on sound i t own c end listed sender.
    post_out (g.B.Behaviour.reaction b) (g.B.Behaviour.valid b) (g.B.Behaviour.carried b) (g.met.B.Behaviour.sound b) (g.met.B.Behaviour.modest b) plan until in_time fits kept line net core at v on sound i t own c end listed sender

pub returns-clause-receiver : goal.returns-clause-receiver
returns-clause-receiver g c = λ b plan until kept line net fits in_time core at v on sound c end listed.
    post_receiver (g.B.Behaviour.reaction b) (g.B.Behaviour.valid b) (g.B.Behaviour.carried b) (g.met.B.Behaviour.sound b) (g.met.B.Behaviour.modest b) plan until in_time fits kept line net core at v on sound c end listed

pub returns-clause-mail : goal.returns-clause-mail
returns-clause-mail g c = λ b plan until kept line net fits in_time core at v on sound i t own c end listed sender mail its.
    post_mail (g.B.Behaviour.reaction b) (g.B.Behaviour.valid b) (g.B.Behaviour.carried b) (g.met.B.Behaviour.sound b) (g.met.B.Behaviour.modest b) plan until in_time fits kept line net core at v on sound i t own c end listed sender mail its

pub returns-clause-joined : goal.returns-clause-joined
returns-clause-joined g c = λ b plan until kept line net fits in_time core at v on sound i t own c end listed sender mail its.
    post_joined (g.B.Behaviour.reaction b) (g.B.Behaviour.valid b) (g.B.Behaviour.carried b) (g.met.B.Behaviour.sound b) (g.met.B.Behaviour.modest b) plan until in_time fits kept line net core at v on sound i t own c end listed sender mail its

pub returns-clause-own : goal.returns-clause-own
returns-clause-own g c = λ b plan until kept line net fits in_time core at v on sound i t own mail its.
    take_own (g.B.Behaviour.reaction b) (g.B.Behaviour.valid b) (g.B.Behaviour.carried b) (g.met.B.Behaviour.sound b) (g.met.B.Behaviour.modest b) plan until in_time fits kept line net core at v on sound i t own mail its

pub returns-clause-new : goal.returns-clause-new
returns-clause-new g c = λ b plan until kept line net fits in_time core at v on sound i t own mail its.
    take_new (g.B.Behaviour.reaction b) (g.B.Behaviour.valid b) (g.B.Behaviour.carried b) (g.met.B.Behaviour.sound b) (g.met.B.Behaviour.modest b) plan until in_time fits kept line net core at v on sound i t own mail its

pub returns-clause-number : goal.returns-clause-number
returns-clause-number g c = λ b plan until kept line net fits in_time core at v on sound i t own.
    report_known (g.B.Behaviour.reaction b) (g.B.Behaviour.valid b) (g.B.Behaviour.carried b) (g.met.B.Behaviour.sound b) (g.met.B.Behaviour.modest b) plan until in_time fits kept line net core at v on sound i t own

pub returns-clause-cross : goal.returns-clause-cross
returns-clause-cross g c = λ b plan until kept line net fits in_time core at v on sound i t own.
    report_cross (g.B.Behaviour.reaction b) (g.B.Behaviour.valid b) (g.B.Behaviour.carried b) (g.met.B.Behaviour.sound b) (g.met.B.Behaviour.modest b) plan until in_time fits kept line net core at v on sound i t own

pub returns-clause-ends : goal.returns-clause-ends
returns-clause-ends g c = λ b plan until kept line net fits in_time core at v on sound i t own.
    report_ends (g.B.Behaviour.reaction b) (g.B.Behaviour.valid b) (g.B.Behaviour.carried b) (g.met.B.Behaviour.sound b) (g.met.B.Behaviour.modest b) plan until in_time fits kept line net core at v on sound i t own
