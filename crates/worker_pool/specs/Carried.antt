-- What became of the parts of a run.
use Rattle.std.specs.Prelude.{ℕ, ◌≡◌, ◌≤◌, ◌<◌, ◌+◌, ◌^◌, List, Some, slice_get, Vec}
use Rattle.std.specs.Global.{Global}
use Rattle.share_turns.specs.Rows.{AreNear}
use Rattle.ssf_model.specs.Reaction.{Reaction, Validity}
use Rattle.plan_shares.specs.declared.crosses.CrossEnd.{CrossEnd}
use Rattle.timeline.specs.View.{TimelineOf}
use Rattle.core_rules.specs.Cores.{CoreView, IsCoreOfRun, IsSoundFor}
use Rattle.core_rules.specs.Reading.{safe_bound_in}
use Rattle.share_rules.specs.Gathered.{IsOfSame}
use Rattle.share_rules.specs.Home.{IsSince, AreAtHome}
use Rattle.share_rules.specs.Places.{count_of, barrier_place, round_word, shares_of}
use Rattle.share_rules.specs.Runs.{OfItsRuns}

-- each timeline is what it became by steps: its lower bound has not fallen, and it has all of its history
abbrev pub AreSince : {B S P : Type 0} → CoreView B S P → CoreView B S P → Type 0
AreSince {B} {S} {P} core after = (i : ℕ) (old : TimelineOf B S P) → slice_get core.timelines i ≡ Some old → (t : TimelineOf B S P) × (slice_get after.timelines i ≡ Some t) × IsSince old t

-- 32 bits can tell all places and count words of a table of these parts
pub record AreFew {B S P : Type 0} (core : CoreView B S P) : Type 0 where
  pub places : barrier_place core + 1 < 2 ^ 32
  pub words : round_word core + 1 < 2 ^ 32

module _ {B S P : Type 0} (valid : Validity S) (carried : P → Type 0) (r : Reaction S P) where
  -- the parts were gathered from a table of those that were shared out, and are at home by some counts
  pub record AreGathered (key core : CoreView B S P) : Type 0 where
    pub same : IsOfSame key core
    pub counts : ℕ → ℕ
    pub home : AreAtHome valid carried r key counts (shares_of core)

  -- the parts have gone on, and are still those of their runs
  pub record AreCarriedOn (core after : CoreView B S P) : Type 0 where
    pub run : IsCoreOfRun valid carried r after
    pub same : IsOfSame core after
    pub sound : OfItsRuns valid carried r core (λ plan line s. (at : ℕ → ℕ) × (v : ℕ) × IsSoundFor plan line s after at v)
    pub since : AreSince core after
    pub safe : safe_bound_in core ≤ safe_bound_in after

module _ {B S P : Type 0} (valid : B → Validity S) (carried : B → P → Type 0) (reaction : B → Reaction S P) where
  -- workers can take turns at a table of these parts, with this behaviour, these ends and this index of them
  pub record CanWork (key : CoreView B S P) (behaviour : B) (ends : List CrossEnd) (rows : List (Vec ℕ Global)) : Type 0 where
    pub run : IsCoreOfRun (valid key.behaviour) (carried key.behaviour) (reaction key.behaviour) key
    pub own : behaviour ≡ key.behaviour
    pub ends_are : ends ≡ key.ends
    pub some : 0 < count_of key
    pub few : AreFew key
    pub near : AreNear key.ends (count_of key) rows
