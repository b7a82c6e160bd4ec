use Rattle.std.proofs.Common.{◌≡◌, drop}
use Rattle.sync_core.specs.Cores.{least_low}
use Rattle.sync_core.proofs.core_parts.least_low_of.Given as goal

abbrev pub invariant-loop-timeline : goal.invariant-loop-timeline
invariant-loop-timeline g l = least_low l.fn.bound l.fn.timelines ≡ least_low l.least (drop l.timeline-index l.fn.timelines)
