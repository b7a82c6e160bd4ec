use Rattle.std.proofs.Common.{◌≡◌, length}
use Rattle.sync_steps.specs.Schedules.{steps_of}
use Rattle.sync_steps.proofs.Words.{after}
use Rattle.sync_steps.proofs.schedules.read_schedule.Given as goal

-- the steps so far come before those of the rest
abbrev pub invariant-loop-comma : goal.invariant-loop-comma
invariant-loop-comma l = steps_of l.word ≡ after l.steps.items (steps_of l.rest)

abbrev pub decreases-loop-comma : goal.decreases-loop-comma
decreases-loop-comma l = length l.rest
