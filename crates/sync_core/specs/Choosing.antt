-- How the next step is found. No public clause cites this file.
use Rattle.std.specs.Prelude.{ℕ, ◌≡◌, ◌+◌, ◌≤◌, ◌⊎◌, Bool, true, false, List, [], ◌∷◌, length, Option, Some, None, slice_get, slice_set, unwrap_or}
use Rattle.std.specs.List.{flat_map}
use Rattle.event_order.specs.Pending.{Among}
use Rattle.ssf_model.specs.Reaction.{Reaction}
use Rattle.marked_numbers.specs.Least.{IsMarked}
use Rattle.timeline.specs.View.{TimelineOf}
use Rattle.timeline.specs.Holding.{low_in, is_over}
use Rattle.sync_steps.specs.declared.steps.Step.{Step}
use Rattle.sync_steps.specs.declared.steps.Step.TheVariants.{Execute, Post, Take, Enter, Report, Cross}
use Rattle.core_rules.specs.Cores.{CoreView}
use Rattle.core_rules.specs.Stepping.{end_at, is_enabled, IsSpentIn}
use Rattle.sync_core.specs.declared.driving.DriveEnd.{DriveEnd}
use Rattle.sync_core.specs.declared.driving.DriveEnd.TheVariants.{Finished, OverBudget, Crossed}
use Rattle.sync_core.specs.declared.work.Kind.{Kind}
use Rattle.sync_core.specs.declared.work.Kind.TheVariants.{Executes, Posts, Takes, Enters, Reports}
use Rattle.sync_core.specs.declared.work.Work.{Work}
use Rattle.sync_core.specs.Driving.{EndsFirstAt, HasCome, IsTried, IsFirstMade}
use Rattle.sync_core.specs.Steps.{posts_of, numbers_in, enabled_steps, receiver_from}

-- so many timelines have marks for each kind
pub record HasMarks (timelines : ℕ) (work : Work) : Type 0 where
  pub executes : length work.executes ≡ timelines
  pub posts : length work.posts ≡ timelines
  pub takes : length work.takes ≡ timelines
  pub enters : length work.enters ≡ timelines
  pub reports : length work.reports ≡ timelines

-- the timeline that makes a step, if one does
abbrev pub own_timeline : Step → Option ℕ
own_timeline (Execute i) = Some i
own_timeline (Post i c) = Some i
own_timeline (Take i) = Some i
own_timeline (Enter i) = Some i
own_timeline (Report i) = Some i
own_timeline Cross = None

-- the round up to which is driven from the round `first`
abbrev pub last_round : ℕ → Option ℕ → Option ℕ
last_round first None = None
last_round first (Some crossings) = Some (first + crossings)

module _ {B S P : Type 0} where
  -- ---- the steps of a kind

  abbrev pub posts_at : ℕ → Option (TimelineOf B S P) → List Step
  posts_at i None = []
  posts_at i (Some t) = posts_of (i, t)

  -- those of timeline i, and of all
  abbrev pub steps_of : Kind → CoreView B S P → ℕ → List Step
  steps_of Executes core i = Execute i ∷ []
  steps_of Posts core i = posts_at i (slice_get core.timelines i)
  steps_of Takes core i = Take i ∷ []
  steps_of Enters core i = Enter i ∷ []
  steps_of Reports core i = Report i ∷ []

  abbrev pub all_of : Kind → CoreView B S P → List Step
  all_of kind core = flat_map (steps_of kind core) (numbers_in core)

  -- ---- marks

  -- each timeline that has an enabled step of the kind is marked
  pub record Covers (kind : Kind) (core : CoreView B S P) (marks : List Bool) : Type 0 where
    pub many : length marks ≡ length core.timelines
    pub known : (i : ℕ) (step : Step) → Among step (steps_of kind core i) → is_enabled core step ≡ true → IsMarked marks i

  -- so it is for each kind, and no timeline is over with a lower bound before the time `over`
  pub record IsWorkOf (core : CoreView B S P) (work : Work) : Type 0 where
    pub executes : Covers Executes core work.executes
    pub posts : Covers Posts core work.posts
    pub takes : Covers Takes core work.takes
    pub enters : Covers Enters core work.enters
    pub reports : Covers Reports core work.reports
    pub over : (i : ℕ) (t : TimelineOf B S P) → slice_get core.timelines i ≡ Some t → is_over t ≡ true → work.over ≤ low_in t

  -- the timeline that may take after a step of timeline i: the receiver of a post, and else i
  abbrev pub taker_of : CoreView B S P → Step → ℕ → ℕ
  taker_of core (Execute k) i = i
  taker_of core (Post k c) i = unwrap_or (receiver_from i (end_at c core.ends)) i
  taker_of core (Take k) i = i
  taker_of core (Enter k) i = i
  taker_of core (Report k) i = i
  taker_of core Cross i = i

  -- timeline i is marked for each kind and timeline j for taking, and where the budget of i is spent, `over` is at most
  -- its lower bound
  pub record IsMarkedAt (core : CoreView B S P) (i j : ℕ) (work after : Work) : Type 0 where
    pub executes : after.executes ≡ slice_set work.executes i true
    pub posts : after.posts ≡ slice_set work.posts i true
    pub takes : after.takes ≡ slice_set (slice_set work.takes i true) j true
    pub enters : after.enters ≡ slice_set work.enters i true
    pub reports : after.reports ≡ slice_set work.reports i true
    pub over : after.over ≤ work.over
    pub here : (t : TimelineOf B S P) → slice_get core.timelines i ≡ Some t → is_over t ≡ true → after.over ≤ low_in t

  -- ---- one of the steps

  -- the round is at most that one
  abbrev pub IsNotPast : Option ℕ → CoreView B S P → Type 0
  IsNotPast None core = Unit {0}
  IsNotPast (Some round) core = core.barrier.round ≤ round

  -- the end is due
  abbrev pub IsDue : Option ℕ → CoreView B S P → DriveEnd → Type 0
  IsDue last core Finished = core.barrier.ended ≡ true
  IsDue last core (OverBudget i) = (core.barrier.ended ≡ false) × EndsFirstAt core i
  IsDue last core Crossed = (core.barrier.ended ≡ false) × HasCome last core

  -- the next step, where this is left of the schedule
  abbrev pub IsNextStep : List Step → CoreView B S P → Step → Type 0
  IsNextStep [] core step = slice_get (enabled_steps core) 0 ≡ Some step
  IsNextStep (s ∷ steps) core step = step ≡ s

  -- the next step of what is left of the schedule was tried, or, where nothing is left, the first enabled one made
  abbrev pub IsNextTry : Reaction S P → List Step → CoreView B S P → CoreView B S P → Type 0
  IsNextTry r [] core after = IsFirstMade r core after
  IsNextTry r (step ∷ steps) core after = IsTried r step core after

  -- there was no memory: a timeline that was to execute is spent, or nothing has changed
  abbrev pub IsLeft : CoreView B S P → CoreView B S P → Type 0
  IsLeft core after = (after ≡ core) ⊎ ((i : ℕ) × IsSpentIn i core after)
