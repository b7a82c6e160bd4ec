use Rattle.std.proofs.Common.{◌≡◌, length}
use Rattle.command_words.specs.Schedule.{is_schedule}
use Rattle.command_words.proofs.schedule.is_schedule.Given as goal

-- the steps so far are steps
abbrev pub invariant-loop-comma : goal.invariant-loop-comma
invariant-loop-comma l = is_schedule l.word ≡ is_schedule l.rest

abbrev pub decreases-loop-comma : goal.decreases-loop-comma
decreases-loop-comma l = length l.rest
