use Rattle.std.proofs.Common.{◌≡◌, drop}
use Rattle.barrier_window.specs.Crossings.{first_without}
use Rattle.barrier_window.proofs.barrier.least_without.Given as goal

abbrev pub invariant-loop-timeline : goal.invariant-loop-timeline
invariant-loop-timeline l = first_without l.timeline (drop l.timeline l.reports) ≡ first_without l.from (drop l.from l.reports)
