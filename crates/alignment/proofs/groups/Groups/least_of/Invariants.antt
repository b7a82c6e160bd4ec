use Rattle.std.proofs.Common.{◌<◌, length}
use Rattle.alignment.specs.Forests.{IsSmoothed}
use Rattle.alignment.proofs.groups.Groups.least_of.Given as goal

abbrev pub invariant-loop-at : goal.invariant-loop-at
invariant-loop-at l = record { smoothed : IsSmoothed l.initial.self l.self l.initial.at l.at; within : l.at < length l.self }

abbrev pub decreases-loop-at : goal.decreases-loop-at
decreases-loop-at l = l.at
