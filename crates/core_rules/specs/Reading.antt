-- What can be read off all parts.
use Rattle.std.specs.Prelude.{ℕ, ◌≡◌, ◌+◌, true, min, List, [], ◌∷◌, Some, slice_get}
use Rattle.timeline.specs.View.{TimelineOf}
use Rattle.timeline.specs.Holding.{low_in, is_over}
use Rattle.core_rules.specs.Cores.{CoreView}

module _ {B S P : Type 0} where
  -- the least lower bound of some timelines, and `end` where none is below it
  abbrev pub least_low_in : ℕ → List (TimelineOf B S P) → ℕ
  least_low_in end [] = end
  least_low_in end (t ∷ ts) = min (low_in t) (least_low_in end ts)

  -- the safe bound: the least of all lower bounds, up to a tick after the end
  abbrev pub safe_bound_in : CoreView B S P → ℕ
  safe_bound_in core = least_low_in (core.until + 1) core.timelines

  -- the budget ends at timeline i: it is over, and no lower bound is before its own
  pub record BudgetEndsIn (core : CoreView B S P) (i : ℕ) : Type 0 where
    pub timeline : TimelineOf B S P
    pub own : slice_get core.timelines i ≡ Some timeline
    pub over : is_over timeline ≡ true
    pub least : low_in timeline ≡ safe_bound_in core

  -- timeline i is spent
  pub record IsSpentAt (core : CoreView B S P) (i : ℕ) : Type 0 where
    pub timeline : TimelineOf B S P
    pub own : slice_get core.timelines i ≡ Some timeline
    pub spent : timeline.spent ≡ true
