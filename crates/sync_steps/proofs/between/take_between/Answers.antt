use Rattle.sync_steps.proofs.Taking.{taken_after_room}
use Rattle.sync_steps.proofs.between.take_between.Goals as goal

pub returns-clause-did : goal.returns-clause-did
returns-clause-did g c = λ did.
    taken_after_room c.args.mail.now c.take_all.new.mail c.args.timeline.now c.reserve.new.self c.take_all.new.timeline c.in_ok-reserve.ensures.same c.take_all.ensures
