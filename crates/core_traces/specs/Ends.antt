-- How a run ends: its windows, and where the budget of a timeline ends.
use Rattle.std.specs.Prelude.{ℕ, ◌≡◌, ◌<◌, ◌≤◌, Some}
use Rattle.ssf_model.specs.Scene.{Scene, event_at, time_of}
use Rattle.ssf_model.specs.Truth.{IsWindow}
use Rattle.sync_rules.specs.Sound.{IsOwnEvent}

-- the windows of the run: `count` of them after the first one, the last of them at `last`, from which on the run has no event
pub record AreWindows {X E : Type 0} (s : Scene X E) (count last : ℕ) : Type 0 where
  pub before : ℕ
  pub window : IsWindow s count before last
  pub over : (j : ℕ) (e : E) → event_at s j ≡ Some e → time_of s e < last

-- no timeline has its event number `budget`, counted from 0, before the time f
abbrev pub IsInBudget : {X E : Type 0} → Scene X E → ℕ → ℕ → Type 0
IsInBudget {X} {E} s budget f = (j k : ℕ) (e : E) → IsOwnEvent s j budget k e → f ≤ time_of s e

-- the budget ends at timeline i, at the time f: this is the time of its event number `budget`, counted from 0, and no
-- timeline has an earlier event of this number
pub record EndsBudget {X E : Type 0} (s : Scene X E) (budget i f : ℕ) : Type 0 where
  pub number : ℕ
  pub event : E
  pub own : IsOwnEvent s i budget number event
  pub at : time_of s event ≡ f
  pub least : IsInBudget s budget f
