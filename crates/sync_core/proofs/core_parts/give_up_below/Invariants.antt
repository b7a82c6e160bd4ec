use Rattle.std.proofs.Common.{◌≡◌, ◌++◌, map, take, drop}
use Rattle.timeline.specs.Moving.{without}
use Rattle.sync_core.proofs.core_parts.give_up_below.Given as goal

abbrev pub invariant-loop-place : goal.invariant-loop-place
invariant-loop-place g l = l.timelines.items ≡ map (without l.below) (take l.place l.initial.timelines.items) ++ drop l.place l.initial.timelines.items
