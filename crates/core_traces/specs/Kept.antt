-- The histories of all timelines as a piece of the run's records: those before a time were given up, and from it on all are
-- kept of what was executed.
use Rattle.std.specs.Prelude.{ℕ, ◌≡◌, ◌+◌, ◌<◌, ◌≤◌, Bool, true, List, ◌++◌, map, length, Some, slice_get}
use Rattle.event_order.specs.declared.key.Key.{Key}
use Rattle.event_order.specs.Pending.{Among}
use Rattle.ssf_model.specs.declared.event.Event.{Event}
use Rattle.ssf_model.specs.declared.event.Entry.{Entry}
use Rattle.ssf_model.specs.declared.plan.Plan.{Plan}
use Rattle.ssf_model.specs.Reaction.{Reaction, Validity}
use Rattle.ssf_model.specs.Run.{States}
use Rattle.ssf_model.specs.Runs.{OfEachFittingRun}
use Rattle.ssf_model.specs.Scene.{Scene, scene_of}
use Rattle.ssf_model.specs.Truth.{line_entries}
use Rattle.sync_facts.specs.Nets.{net_of}
use Rattle.alignment.specs.Alignment.{line_of, timeline_count}
use Rattle.timeline.specs.View.{TimelineOf}
use Rattle.timeline.specs.Holding.{low_in}
use Rattle.timeline.specs.Sound.{IsRunOnLines}
use Rattle.sync_steps.specs.Sounds.{has_least}
use Rattle.core_rules.specs.Cores.{CoreView, IsSoundFor}
use Rattle.core_rules.specs.Reading.{safe_bound_in}

-- of some entries the first, with times below g, were given up, and the rest, with times from g on, are kept
pub record AreKept (g : ℕ) (entries kept : List Entry) : Type 0 where
  pub given_up : List Entry
  pub whole : given_up ++ kept ≡ entries
  pub before : (x : Entry) → Among x given_up → x.key.time < g
  pub from : (x : Entry) → Among x kept → g ≤ x.key.time

module _ {B S P : Type 0} where
  abbrev pub history_in : TimelineOf B S P → List Entry
  history_in t = t.history

  -- the histories of all timelines, in the order of their numbers
  abbrev pub histories_of : CoreView B S P → List (List Entry)
  histories_of core = map history_in core.timelines

  -- the run of a plan whose entities stand on the timelines `lines`, where mappings between two timelines are appointed ones
  -- below this threshold
  abbrev pub run_on : Reaction S P → Plan B S P → List ℕ → ℕ → ℕ → (Key → Bool) → Scene (States B S P) (Event P)
  run_on r plan lines threshold until kept = scene_of r plan until kept (line_of lines) (net_of plan (line_of lines) (timeline_count lines) threshold)

  -- each timeline i, which stands at the moment `at i` of the run, keeps what it has executed from g on
  abbrev pub IsKeptFrom : Scene (States B S P) (Event P) → CoreView B S P → (ℕ → ℕ) → ℕ → Type 0
  IsKeptFrom s core at g = (i : ℕ) (t : TimelineOf B S P) → slice_get core.timelines i ≡ Some t → AreKept g (line_entries s i (at i)) t.history

  -- each timeline that has reported to the barrier has its lower bound in the barrier's window or later
  abbrev pub AreInWindow : CoreView B S P → Type 0
  AreInWindow core = (i : ℕ) (t : TimelineOf B S P) → slice_get core.timelines i ≡ Some t → has_least (slice_get core.barrier.reports i) ≡ true → core.barrier.window ≤ low_in t

  -- all parts are sound for the run of the plan, with this budget; entries before g were given up, and all others are kept;
  -- and g is not after the safe bound
  pub record IsCoreFrom (plan : Plan B S P) (line : ℕ → ℕ) (s : Scene (States B S P) (Event P)) (budget : ℕ) (core : CoreView B S P) (g : ℕ) : Type 0 where
    pub run : IsRunOnLines plan line budget s
    pub at : ℕ → ℕ
    pub before : ℕ
    pub sound : IsSoundFor plan line s core at before
    pub most : core.budget ≡ budget
    pub keeps : IsKeptFrom s core at g
    pub reported : AreInWindow core
    pub safe : g ≤ safe_bound_in core

  -- the same, but that nothing is told of the timelines that have reported
  pub record AreSoundFrom (plan : Plan B S P) (line : ℕ → ℕ) (s : Scene (States B S P) (Event P)) (budget : ℕ) (core : CoreView B S P) (g : ℕ) : Type 0 where
    pub run : IsRunOnLines plan line budget s
    pub at : ℕ → ℕ
    pub before : ℕ
    pub sound : IsSoundFor plan line s core at before
    pub most : core.budget ≡ budget
    pub keeps : IsKeptFrom s core at g
    pub safe : g ≤ safe_bound_in core

  -- the law holds of all parts, for the run of each plan that fits
  abbrev pub OfEachSoundFrom : Validity S → (P → Type 0) → Reaction S P
      → (Plan B S P → (ℕ → ℕ) → Scene (States B S P) (Event P) → ℕ → CoreView B S P → ℕ → Type 0) → Type 0
  OfEachSoundFrom valid carried r law = OfEachFittingRun valid carried r (λ plan line s. (budget : ℕ) (core : CoreView B S P) (g : ℕ)
      → AreSoundFrom plan line s budget core g → law plan line s budget core g)

  -- the law holds of all such parts, for the run of each plan that fits
  abbrev pub OfEachCoreFrom : Validity S → (P → Type 0) → Reaction S P
      → (Plan B S P → (ℕ → ℕ) → Scene (States B S P) (Event P) → ℕ → CoreView B S P → ℕ → Type 0) → Type 0
  OfEachCoreFrom valid carried r law = OfEachFittingRun valid carried r (λ plan line s. (budget : ℕ) (core : CoreView B S P) (g : ℕ)
      → IsCoreFrom plan line s budget core g → law plan line s budget core g)

  -- each timeline has its history still, and behind it an entry for each event that it has executed since
  abbrev pub HaveGrown : CoreView B S P → CoreView B S P → Type 0
  HaveGrown core after = (i : ℕ) (t : TimelineOf B S P) → slice_get core.timelines i ≡ Some t
      → (next : TimelineOf B S P) × (slice_get after.timelines i ≡ Some next)
      × (more : List Entry) × (next.history ≡ t.history ++ more) × (next.executed ≡ t.executed + length more)
