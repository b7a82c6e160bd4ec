-- What the parts of a turn ask and do.
use Rattle.std.specs.Prelude.{ℕ, suc, ◌≡◌, ◌<◌, ◌≤◌, ◌+◌, ◌⊎◌, Bool, List, length, Some, None, slice_get}
use Rattle.std.specs.List.{All}
use Rattle.ssf_model.specs.Reaction.{Reaction, Validity}
use Rattle.turn_table.specs.declared.pass.Held.{Held}
use Rattle.turn_table.specs.declared.view.View.{View}
use Rattle.turn_table.specs.Views.{note, mark}
use Rattle.plan_shares.specs.declared.crosses.CrossEnd.{CrossEnd}
use Rattle.timeline.specs.View.{TimelineOf}
use Rattle.appointments.specs.Mails.{Mails}
use Rattle.barrier_window.specs.BarrierFields.{BarrierFields}
use Rattle.sync_steps.specs.declared.steps.Step.{Step}
use Rattle.sync_steps.specs.declared.steps.Step.TheVariants.{Execute, Post, Take, Enter, Report, Cross}
use Rattle.core_rules.specs.Cores.{CoreView}
use Rattle.share_rules.specs.Places.{mail_place, barrier_place, round_word}
use Rattle.share_rules.specs.Held.{AreMet}
use Rattle.share_turns.specs.declared.share.Share.{Share}
use Rattle.share_turns.specs.declared.share.Share.TheVariants.{Timeline, Mail, Barrier}
use Rattle.share_turns.specs.Holdings.{HoldsTwo, IsTimelineOut, IsBarrierOut, IsTimelineBy}
use Rattle.worker_hands.specs.declared.hand.Made.{Made}
use Rattle.worker_hands.specs.Asked.{AreOf, runs_in, last_answer, WasNotEnabled, IsExhausted, IsUncrossed}
use Rattle.worker_hands.specs.Stepping.{IsSomePair, IsSomePost, IsSomeMeeting, IsSomeTimeline, IfExecuted, IfTaken, IfPosted, IfEntered, IfReported, IfCrossed}
use Rattle.worker_turns.specs.Working.{HasLost}

-- ---- what was asked

-- each was a step of this kind
abbrev pub AreAll : (Step → Type 0) → List Made → Type 0
AreAll kind made = All (λ m. kind m.step) made

-- timeline i posts on some channel
abbrev pub IsPost : ℕ → Step → Type 0
IsPost i step = (c : ℕ) × (step ≡ Post i c)

-- timeline i enters or reports, or the barrier is crossed
abbrev pub IsMeeting : ℕ → Step → Type 0
IsMeeting i step = (step ≡ Enter i) ⊎ ((step ≡ Report i) ⊎ (step ≡ Cross))

-- a turn executes at most so many events
abbrev pub most_executed : ℕ
most_executed = 1024

-- timeline i executed, while so many events were left to be
pub record AreRuns (left after i : ℕ) (made : List Made) : Type 0 where
  pub all : AreOf (Execute i) made
  pub runs : runs_in made + after ≡ left
  pub done : IsExhausted after i made

-- timeline i and the barrier met: none of the steps was enabled at the last
pub record AreMeetings (i : ℕ) (made : List Made) : Type 0 where
  pub all : AreAll (IsMeeting i) made
  pub runs : runs_in made ≡ 0
  pub enter : WasNotEnabled (Enter i) made
  pub report : WasNotEnabled (Report i) made
  pub cross : IsUncrossed (last_answer Cross made)

module _ {B S P : Type 0} (key : CoreView B S P) where
  -- timeline i posts on the channel of an end of which it is the sender
  pub record IsPostOut (i : ℕ) (step : Step) : Type 0 where
    pub k : ℕ
    pub end : CrossEnd
    pub is : slice_get key.ends k ≡ Some end
    pub sender : end.sender ≡ i
    pub post : step ≡ Post i end.channel

  -- a step of timeline i: it executes, takes its mail, posts, enters or reports; or the barrier is crossed
  abbrev pub IsOfTurn : ℕ → Step → Type 0
  IsOfTurn i step = (step ≡ Execute i) ⊎ ((step ≡ Take i) ⊎ (IsPostOut i step ⊎ IsMeeting i step))

  -- steps of timeline i alone, by which at most so many events were executed
  pub record AreSteps (most i : ℕ) (made : List Made) : Type 0 where
    pub all : AreAll (IsOfTurn i) made
    pub runs : runs_in made ≤ most

  -- timeline i took its mail, where no try for that was lost
  pub record AreTakes (i : ℕ) (v w : View) (made : List Made) : Type 0 where
    pub all : AreOf (Take i) made
    pub runs : runs_in made ≡ 0
    pub done : HasLost v w (mail_place key i) ⊎ WasNotEnabled (Take i) made

  -- timeline i posted on the channel of an end, where no try for the mail of its receiver was lost
  pub record ArePostsOn (i : ℕ) (end : CrossEnd) (v w : View) (made : List Made) : Type 0 where
    pub all : AreOf (Post i end.channel) made
    pub runs : runs_in made ≡ 0
    pub done : (HasLost v w (mail_place key end.receiver) × (last_answer (Post i end.channel) made ≡ None)) ⊎ WasNotEnabled (Post i end.channel) made

  -- the same of the end k, where it is one of this sender; on each channel the last answer is that one, or there is none
  pub record ArePostsAt (k i : ℕ) (v w : View) (made : List Made) : Type 0 where
    pub all : AreAll (IsPost i) made
    pub runs : runs_in made ≡ 0
    pub still : (c : ℕ) → (last_answer (Post i c) made ≡ None) ⊎ WasNotEnabled (Post i c) made
    pub done : (end : CrossEnd) → slice_get key.ends k ≡ Some end → end.sender ≡ i → HasLost v w (mail_place key end.receiver) ⊎ WasNotEnabled (Post i end.channel) made

  -- timeline i posted on the channel of each end of which it is the sender
  pub record ArePosts (i : ℕ) (v w : View) (made : List Made) : Type 0 where
    pub all : AreAll (IsPost i) made
    pub runs : runs_in made ≡ 0
    pub done : (k : ℕ) (end : CrossEnd) → slice_get key.ends k ≡ Some end → end.sender ≡ i → HasLost v w (mail_place key end.receiver) ⊎ WasNotEnabled (Post i end.channel) made

  -- timeline i met the barrier, where no try for that was lost
  pub record AreMeetingsOr (i : ℕ) (v w : View) (made : List Made) : Type 0 where
    pub all : AreAll (IsMeeting i) made
    pub runs : runs_in made ≡ 0
    pub done : HasLost v w (barrier_place key) ⊎ AreMeetings i made

-- ---- what is held

module _ {B S P : Type 0} (valid : B → Validity S) (carried : B → P → Type 0) (r : B → Reaction S P) where
  -- timeline i and the barrier were moved out
  pub record AreAtBarrier (key : CoreView B S P) (v : View) (i : ℕ) (own barrier : Held (Share B S P)) : Type 0 where
    pub timeline : TimelineOf B S P
    pub value : BarrierFields
    pub out : IsTimelineOut i timeline own
    pub barrier_out : IsBarrierOut (barrier_place key) value barrier
    pub so : IsTimelineBy valid carried r key v i timeline
    pub holds : HoldsTwo v i (barrier_place key)
    pub noted : note v (round_word key) ≡ suc value.round
    pub marked : mark v (round_word key) ≡ suc value.round
    pub met : AreMet (valid key.behaviour) (carried key.behaviour) (r key.behaviour) key (mark v) i timeline value

  -- ---- steps on shares: what they may be asked for, and what they did

  pub record CanTake (i : ℕ) (own mail : Share B S P) : Type 0 where
    pub t : TimelineOf B S P
    pub x : Mails P
    pub own_is : own ≡ Timeline t
    pub mail_is : mail ≡ Mail x
    pub some : IsSomePair valid carried r i i t x

  pub record HasTakenOn (i : ℕ) (own own_after mail mail_after : Share B S P) : Type 0 where
    pub t : TimelineOf B S P
    pub after : TimelineOf B S P
    pub x : Mails P
    pub x_after : Mails P
    pub own_is : own ≡ Timeline t
    pub own_after_is : own_after ≡ Timeline after
    pub mail_is : mail ≡ Mail x
    pub mail_after_is : mail_after ≡ Mail x_after
    pub taken : IfTaken valid carried r i t after x x_after

  pub record CanExecute (b : B) (i : ℕ) (own : Share B S P) : Type 0 where
    pub t : TimelineOf B S P
    pub own_is : own ≡ Timeline t
    pub some : IsSomeTimeline valid carried r b i t

  pub record HasExecutedOn (b : B) (i : ℕ) (own own_after : Share B S P) : Type 0 where
    pub t : TimelineOf B S P
    pub after : TimelineOf B S P
    pub own_is : own ≡ Timeline t
    pub own_after_is : own_after ≡ Timeline after
    pub executed : IfExecuted valid carried r b i t after

  pub record CanPost (i c : ℕ) (own mail : Share B S P) : Type 0 where
    pub t : TimelineOf B S P
    pub x : Mails P
    pub own_is : own ≡ Timeline t
    pub mail_is : mail ≡ Mail x
    pub some : IsSomePost valid carried r i c t x

  pub record HasPostedOn (i c : ℕ) (own own_after mail mail_after : Share B S P) : Type 0 where
    pub t : TimelineOf B S P
    pub after : TimelineOf B S P
    pub x : Mails P
    pub x_after : Mails P
    pub own_is : own ≡ Timeline t
    pub own_after_is : own_after ≡ Timeline after
    pub mail_is : mail ≡ Mail x
    pub mail_after_is : mail_after ≡ Mail x_after
    pub posted : IfPosted valid carried r i c t after x x_after

  pub record HasEnteredOn (i : ℕ) (own own_after : Share B S P) (bar : BarrierFields) : Type 0 where
    pub t : TimelineOf B S P
    pub after : TimelineOf B S P
    pub own_is : own ≡ Timeline t
    pub own_after_is : own_after ≡ Timeline after
    pub entered : IfEntered valid carried r i t after bar

  pub record CanReport (i : ℕ) (t : TimelineOf B S P) (barrier : Share B S P) : Type 0 where
    pub value : BarrierFields
    pub barrier_is : barrier ≡ Barrier value
    pub some : IsSomeMeeting valid carried r i t value

  pub record HasReportedOn (i : ℕ) (t : TimelineOf B S P) (barrier barrier_after : Share B S P) : Type 0 where
    pub value : BarrierFields
    pub after : BarrierFields
    pub barrier_is : barrier ≡ Barrier value
    pub barrier_after_is : barrier_after ≡ Barrier after
    pub reported : IfReported valid carried r i t value after

  pub record CanCross (barrier : Share B S P) : Type 0 where
    pub value : BarrierFields
    pub barrier_is : barrier ≡ Barrier value
    pub some : 1 ≤ length value.reports

  pub record HasCrossedOn (crossed : Bool) (barrier barrier_after : Share B S P) : Type 0 where
    pub value : BarrierFields
    pub after : BarrierFields
    pub barrier_is : barrier ≡ Barrier value
    pub barrier_after_is : barrier_after ≡ Barrier after
    pub did : IfCrossed valid carried r crossed value after
