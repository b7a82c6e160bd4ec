-- Facts on the runs for which all parts were sound when they were shared out.
use Rattle.std.specs.Prelude.{ℕ, ◌<◌, ◌≤◌}
use Rattle.ssf_model.specs.declared.event.Event.{Event}
use Rattle.ssf_model.specs.declared.plan.Plan.{Plan}
use Rattle.ssf_model.specs.Reaction.{Reaction, Validity}
use Rattle.ssf_model.specs.Run.{States}
use Rattle.ssf_model.specs.Runs.{OfEachFittingRun}
use Rattle.ssf_model.specs.Scene.{Scene, time_of}
use Rattle.ssf_model.specs.Truth.{IsWindow}
use Rattle.sync_rules.specs.Sound.{IsOwnEvent}
use Rattle.timeline.specs.Sound.{IsRunOnLines}
use Rattle.core_rules.specs.Cores.{CoreView, IsSoundFor}

-- the events of timeline i before the time x are among its first k
abbrev pub Covers : {X E : Type 0} → Scene X E → ℕ → ℕ → ℕ → Type 0
Covers {X} {E} s i x k = (j n : ℕ) (e : E) → IsOwnEvent s i n j e → time_of s e < x → n < k

-- x is a window of the run, with the number k or one before
pub record IsWindowUpTo {X E : Type 0} (s : Scene X E) (k x : ℕ) : Type 0 where
  pub number : ℕ
  pub before : ℕ
  pub window : IsWindow s number before x
  pub early : number ≤ k

module _ {B S P : Type 0} where
  -- the law holds of each run for which these parts were sound, with its plan and the timelines of the plan's entities
  abbrev pub OfItsRuns : Validity S → (P → Type 0) → Reaction S P → CoreView B S P → (Plan B S P → (ℕ → ℕ) → Scene (States B S P) (Event P) → Type 0) → Type 0
  OfItsRuns valid carried r key law = OfEachFittingRun valid carried r (λ plan line s. (at : ℕ → ℕ) (v : ℕ)
      → IsRunOnLines plan line key.budget s → IsSoundFor plan line s key at v → law plan line s)
