use Rattle.std.proofs.Common.{◌≡◌, drop}
use Rattle.barrier_window.specs.Crossings.{first_without}
use Rattle.sync_core.proofs.finding.all_reported.Given as goal

abbrev pub invariant-loop-timeline : goal.invariant-loop-timeline
invariant-loop-timeline l = first_without 0 l.barrier.reports ≡ first_without l.timeline (drop l.timeline l.barrier.reports)
