-- The parts of a run before any step.
use Rattle.std.specs.Prelude.{ℕ, ◌≡◌, List, map, length, Some, slice_get}
use Rattle.ssf_model.specs.declared.plan.Plan.{Plan}
use Rattle.timeline_parts.specs.Parts.{channel_of}
use Rattle.timeline.specs.View.{TimelineOf}
use Rattle.timeline.specs.Opening.{IsFirst}
use Rattle.alignment.specs.Alignment.{timeline_count}
use Rattle.alignment.specs.Classes.{least_windowed}
use Rattle.plan_shares.specs.Shares.{crosses_of, share_of, end_of}
use Rattle.appointments.specs.Mails.{Mails, first_mails}
use Rattle.barrier_window.specs.Crossings.{first_barrier}
use Rattle.core_rules.specs.Cores.{CoreView, KeepsPlan}

module _ {B S P : Type 0} where
  -- the plan is shared out to timelines, which have executed nothing: `lines` has the timeline of each entity, and a mapping
  -- between two timelines is an appointed one where its delay is below the threshold
  pub record IsFirstCore (plan : Plan B S P) (lines : List ℕ) (threshold until budget : ℕ) (core : CoreView B S P) : Type 0 where
    pub kept : KeepsPlan plan core
    pub last : core.until ≡ until
    pub most : core.budget ≡ budget
    pub timelines : length core.timelines ≡ timeline_count lines
    pub each : (i : ℕ) (t : TimelineOf B S P) → slice_get core.timelines i ≡ Some t → IsFirst (share_of plan lines threshold i) until budget t
    pub mails : length core.mails ≡ timeline_count lines
    pub each_mail : (i : ℕ) (mail : Mails P) → slice_get core.mails i ≡ Some mail → mail ≡ first_mails (map channel_of (share_of plan lines threshold i).ins)
    pub barrier : core.barrier ≡ first_barrier (timeline_count lines) (map channel_of (crosses_of lines threshold plan.mappings)) (least_windowed lines threshold plan.mappings) until
    pub ends : core.ends ≡ map (end_of lines) (crosses_of lines threshold plan.mappings)
