use Rattle.std.proofs.Common.{ℕ, ◌≡◌, ◌<◌, ◌≤◌, true, Some, slice_get}
use Rattle.timeline.specs.View.{TimelineOf}
use Rattle.timeline.specs.Holding.{low_in, is_over}
use Rattle.sync_core.proofs.core_parts.Core.least_over.Given as goal

abbrev pub invariant-loop-number : goal.invariant-loop-number
invariant-loop-number g l = (i : ℕ) (t : TimelineOf _ _ _) → i < l.number → slice_get l.self.timelines i ≡ Some t → is_over t ≡ true → l.least ≤ low_in t
