use Rattle.sync_steps.proofs.Taking.{IsTakenUpTo}
use Rattle.sync_steps.proofs.between.take_all.Given as goal

abbrev pub invariant-loop-place : goal.invariant-loop-place
invariant-loop-place g l = IsTakenUpTo l.initial.timeline.ins l.place l.initial.mail l.mail l.initial.timeline l.timeline
