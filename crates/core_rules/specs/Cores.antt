-- All parts of a run as contracts see them, and when they are sound for the run of a plan.
use Rattle.std.specs.Prelude.{ℕ, ◌≡◌, ◌≤◌, Bool, true, List, [], length, map, take, Option, Some, None, slice_get}
use Rattle.event_order.specs.declared.key.Key.{Key}
use Rattle.event_order.specs.Pending.{Among}
use Rattle.ssf_model.specs.declared.event.Event.{Event}
use Rattle.ssf_model.specs.declared.plan.Plan.{Plan}
use Rattle.ssf_model.specs.Reaction.{Reaction, Validity, LatestTime}
use Rattle.ssf_model.specs.Run.{States, Fits}
use Rattle.ssf_model.specs.Runs.{OfEachFittingRun}
use Rattle.ssf_model.specs.Scene.{Scene, Net, scene_of}
use Rattle.sync_rules.specs.Parts.{Line, MailOf, CoreOf}
use Rattle.sync_rules.specs.Sound.{IsSoundCore}
use Rattle.sync_rules.specs.Steps.{first_mail}
use Rattle.timeline_parts.specs.Tables.{AreRising}
use Rattle.plan_shares.specs.declared.crosses.CrossEnd.{CrossEnd}
use Rattle.timeline.specs.View.{TimelineOf}
use Rattle.timeline.specs.Lines.{line_of}
use Rattle.timeline.specs.Sound.{IsSoundTimeline, IsRunOnLines}
use Rattle.appointments.specs.Mails.{Mails, mail_at}
use Rattle.barrier_window.specs.BarrierFields.{BarrierFields}
use Rattle.sync_steps.specs.Between.{HasItsEnds, IsMailOf}
use Rattle.sync_steps.specs.Sounds.{mail_as, barrier_as, HaveTheirPlaces}

-- the parts of a run: its timelines, the mail of each, the barrier, and the channels between timelines with their two ends;
-- the last time that is executed and the most events of a timeline; and of the plan its behaviour, how many events went
-- before, and how many writes each start channel counts
pub record CoreView (B S P : Type 0) : Type 0 where
  pub behaviour : B
  pub timelines : List (TimelineOf B S P)
  pub mails : List (Mails P)
  pub barrier : BarrierFields
  pub ends : List CrossEnd
  pub until : ℕ
  pub budget : ℕ
  pub before : ℕ
  pub starts : List ℕ

-- ---- as the rules see them

-- a timeline that is not there
abbrev pub no_line : {E : Type 0} → Line E
no_line = record { moment = 0; executed = 0; pending = []; entered = 0; arrival = 0; taken = λ c. 0; held = λ c. 0; posted = λ c. 0; written = λ c. 0; outbox = λ c. [] }

-- the mail on channel c, where its receiver has this mail, or none
abbrev pub mail_or : {P : Type 0} → ℕ → Option (Mails P) → MailOf (Event P)
mail_or c None = first_mail
mail_or c (Some mail) = mail_as (mail_at mail c)

abbrev pub channel_in : CrossEnd → ℕ
channel_in end = end.channel

-- the ends are those of the net's channels between timelines, in the rising order of these
pub record AreEndsOf (net : Net) (ends : List CrossEnd) : Type 0 where
  pub rising : AreRising (map channel_in ends)
  pub each : (e : CrossEnd) → Among e ends → (net.cross e.channel ≡ true) × (net.sender e.channel ≡ e.sender) × (net.receiver e.channel ≡ e.receiver)
  pub all : (c : ℕ) → net.cross c ≡ true → (e : CrossEnd) × Among e ends × (e.channel ≡ c)

module _ {B S P : Type 0} where
  -- the timeline at a moment of the run, or none
  abbrev pub line_or : ℕ → Option (TimelineOf B S P) → Line (Event P)
  line_or moment None = no_line
  line_or moment (Some t) = line_of moment t

  -- all parts, where timeline i stands at the moment `at i` of the run. The mail on a channel is with its receiver
  abbrev pub core_as : Net → (ℕ → ℕ) → CoreView B S P → CoreOf (Event P)
  core_as net at core = record {
    lines = λ i. line_or (at i) (slice_get core.timelines i);
    mails = λ c. mail_or c (slice_get core.mails (net.receiver c));
    barrier = barrier_as core.barrier;
  }

  -- ---- sound parts

  -- the barrier is that of the run's timelines and channels, with a number for each channel
  pub record IsBarrierOf (s : Scene (States B S P) (Event P)) (b : BarrierFields) : Type 0 where
    pub until : b.until ≡ s.until
    pub lookahead : b.lookahead ≡ s.net.lookahead
    pub timelines : length b.reports ≡ s.net.timelines
    pub rising : AreRising b.channels
    pub crosses : (c : ℕ) → s.net.cross c ≡ true → Among c b.channels
    pub only : (c : ℕ) → Among c b.channels → s.net.cross c ≡ true
    pub counts : length b.counts ≡ length b.channels
    pub sent : length b.sent ≡ length b.channels

  -- t is timeline i of these parts, and sound. It has the budget of all, an end for each of its mappings, at its place at
  -- the barrier, and its own mail
  pub record IsPartOf (plan : Plan B S P) (line : ℕ → ℕ) (s : Scene (States B S P) (Event P)) (core : CoreView B S P) (i moment : ℕ) (t : TimelineOf B S P) : Type 0 where
    pub sound : IsSoundTimeline plan line s i moment t
    pub budget : t.budget ≡ core.budget
    pub ends : HasItsEnds t
    pub places : HaveTheirPlaces t.in_ends core.barrier.channels
    pub mail : (mail : Mails P) → slice_get core.mails i ≡ Some mail → IsMailOf mail t

  -- what the parts keep of the plan
  pub record KeepsPlan (plan : Plan B S P) (core : CoreView B S P) : Type 0 where
    pub behaviour : core.behaviour ≡ plan.behaviour
    pub before : core.before ≡ plan.before
    pub starts : core.starts ≡ take (length plan.entities) plan.counts

  -- all parts are sound for the run of the plan, and fit together: timeline i stands at the moment `at i`, and v is the
  -- window before the barrier's
  pub record IsSoundFor (plan : Plan B S P) (line : ℕ → ℕ) (s : Scene (States B S P) (Event P)) (core : CoreView B S P) (at : ℕ → ℕ) (v : ℕ) : Type 0 where
    pub kept : KeepsPlan plan core
    pub until : core.until ≡ s.until
    pub timelines : length core.timelines ≡ s.net.timelines
    pub mails : length core.mails ≡ s.net.timelines
    pub each : (i : ℕ) (t : TimelineOf B S P) → slice_get core.timelines i ≡ Some t → IsPartOf plan line s core i (at i) t
    pub barrier : IsBarrierOf s core.barrier
    pub ends : AreEndsOf s.net core.ends
    pub all : IsSoundCore s v (core_as s.net at core)

  -- the parts are those of a run: of some plan that fits, on some timelines
  pub record IsCoreOfRun (valid : Validity S) (carried : P → Type 0) (r : Reaction S P) (core : CoreView B S P) : Type 0 where
    pub plan : Plan B S P
    pub line : ℕ → ℕ
    pub net : Net
    pub kept : Key → Bool
    pub fits : Fits valid carried plan
    pub in_time : core.until ≤ LatestTime
    pub run : IsRunOnLines plan line core.budget (scene_of r plan core.until kept line net)
    pub at : ℕ → ℕ
    pub before : ℕ
    pub sound : IsSoundFor plan line (scene_of r plan core.until kept line net) core at before

  -- the law holds of all parts that are sound for the run of a plan that fits
  abbrev pub OfEachSoundCore : Validity S → (P → Type 0) → Reaction S P
      → (Plan B S P → (ℕ → ℕ) → Scene (States B S P) (Event P) → CoreView B S P → (ℕ → ℕ) → ℕ → Type 0) → Type 0
  OfEachSoundCore valid carried r law = OfEachFittingRun valid carried r (λ plan line s. (core : CoreView B S P) (at : ℕ → ℕ) (v : ℕ)
      → IsRunOnLines plan line core.budget s → IsSoundFor plan line s core at v → law plan line s core at v)
