-- All parts of a run as they are kept, and what holds of them at any time.
use Rattle.std.specs.Prelude.{ℕ, ◌≡◌, ◌≤◌, List, [], ◌∷◌, map, min, Some, slice_get}
use Rattle.ssf_model.specs.Reaction.{LatestTime}
use Rattle.timeline_parts.specs.Tables.{AreRising}
use Rattle.timeline_parts.specs.declared.part.Part.{Part}
use Rattle.timeline_parts.specs.Parts.{channel_of}
use Rattle.timeline.specs.View.{TimelineOf}
use Rattle.timeline.specs.Holding.{low_in}
use Rattle.timeline.specs.Opening.{IsFirst}
use Rattle.appointments.specs.Mails.{Mails, first_mails}
use Rattle.sync_steps.specs.Between.{HasItsCrosses}
use Rattle.core_rules.specs.Cores.{CoreView, channel_in}
use Rattle.sync_core.specs.declared.core_parts.Parts.{Parts}

module _ {B S P : Type 0} where
  abbrev pub core_of : Parts B S P → CoreView B S P
  core_of p = record {
    behaviour = p.behaviour;
    timelines = p.timelines.items;
    mails = p.mails.items;
    barrier = p.barrier;
    ends = p.ends.items;
    until = p.until;
    budget = p.budget;
    before = p.before;
    starts = p.starts;
  }

  -- a timeline executes up to the same time as all, and its ends are those of its mappings
  pub record IsOneOf (until : ℕ) (t : TimelineOf B S P) : Type 0 where
    pub last : t.until ≡ until
    pub crosses : HasItsCrosses t

  -- what holds of all parts at any time: the last time is in range, the channels between timelines rise, and each timeline
  -- is one of these
  pub record IsOrdered (core : CoreView B S P) : Type 0 where
    pub until : core.until ≤ LatestTime
    pub rising : AreRising (map channel_in core.ends)
    pub each : (i : ℕ) (t : TimelineOf B S P) → slice_get core.timelines i ≡ Some t → IsOneOf core.until t

  -- the least of a time and the lower bounds of some timelines
  abbrev pub least_low : ℕ → List (TimelineOf B S P) → ℕ
  least_low bound [] = bound
  least_low bound (t ∷ ts) = least_low (min bound (low_in t)) ts

  -- each of these timelines has its part and has executed nothing
  abbrev pub AreFirst : ℕ → ℕ → List (Part B S P) → List (TimelineOf B S P) → Type 0
  AreFirst until budget [] [] = Unit {0}
  AreFirst until budget [] (t ∷ ts) = ⊥
  AreFirst until budget (p ∷ ps) [] = ⊥
  AreFirst until budget (p ∷ ps) (t ∷ ts) = IsFirst p until budget t × AreFirst until budget ps ts

  -- the mail of a timeline at first, on the channels that come to it
  abbrev pub first_mail_of : TimelineOf B S P → Mails P
  first_mail_of t = first_mails (map channel_of t.ins)
