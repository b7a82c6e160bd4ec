-- The steps on all parts: when they can be made, and what they leave.
use Rattle.std.specs.Prelude.{ℕ, ◌≡◌, Bool, true, false, cond, nat_eq, ◌&&◌, not, List, [], ◌∷◌, map, Option, Some, None, is_none, slice_get, slice_set}
use Rattle.ssf_model.specs.Reaction.{Reaction}
use Rattle.plan_shares.specs.declared.crosses.CrossEnd.{CrossEnd}
use Rattle.timeline.specs.View.{TimelineOf}
use Rattle.timeline.specs.Holding.{ahead_in, IsInOrder}
use Rattle.timeline.specs.Executing.{refusal, IsRun, spent_of}
use Rattle.timeline.specs.Moving.{can_enter, entered_at, without}
use Rattle.appointments.specs.Mails.{Mails, mail_at}
use Rattle.barrier_window.specs.BarrierFields.{BarrierFields}
use Rattle.barrier_window.specs.Crossings.{with_report, first_without, crossing, after_crossing}
use Rattle.sync_steps.specs.declared.steps.Step.{Step}
use Rattle.sync_steps.specs.declared.steps.Step.TheVariants.{Execute, Post, Take, Enter, Report, Cross}
use Rattle.sync_steps.specs.Between.{can_post, IsPostedTo, can_take, IsTakenFrom, can_report, counts_in}
use Rattle.core_rules.specs.Cores.{CoreView}

-- ---- when

-- there is something, and it passes the test
abbrev pub passes : {T : Type 0} → Option T → (T → Bool) → Bool
passes None test = false
passes (Some x) test = test x

-- the ends of a channel
abbrev pub end_at : ℕ → List CrossEnd → Option CrossEnd
end_at c [] = None
end_at c (e ∷ es) = cond (nat_eq e.channel c) (Some e) (end_at c es)

-- the barrier has not ended, and all timelines have reported
abbrev pub can_cross : BarrierFields → Bool
can_cross b = not b.ended && is_none (first_without 0 b.reports)

-- the six tests, of timelines that are there
module _ {B S P : Type 0} where
  abbrev pub can_execute_in : CoreView B S P → ℕ → Bool
  can_execute_in core i = passes (slice_get core.timelines i) (λ t. is_none (refusal t))

  -- timeline i can post to the mail of that with the number `receiver`, on channel c
  abbrev pub can_post_to : CoreView B S P → ℕ → ℕ → ℕ → Bool
  can_post_to core i c receiver = passes (slice_get core.timelines i) (λ t. passes (slice_get core.mails receiver) (λ mail. can_post t c (mail_at mail c)))

  abbrev pub can_post_in : CoreView B S P → ℕ → ℕ → Bool
  can_post_in core i c = passes (end_at c core.ends) (λ end. nat_eq end.sender i && can_post_to core i c end.receiver)

  abbrev pub can_take_in : CoreView B S P → ℕ → Bool
  can_take_in core i = passes (slice_get core.timelines i) (λ t. passes (slice_get core.mails i) (λ mail. can_take t mail mail.channels))

  abbrev pub can_enter_in : CoreView B S P → ℕ → Bool
  can_enter_in core i = passes (slice_get core.timelines i) (λ t. can_enter t core.barrier.window core.barrier.counts)

  abbrev pub can_report_in : CoreView B S P → ℕ → Bool
  can_report_in core i = passes (slice_get core.timelines i) (λ t. can_report t i core.barrier)

  abbrev pub is_enabled : CoreView B S P → Step → Bool
  is_enabled core (Execute i) = can_execute_in core i
  is_enabled core (Post i c) = can_post_in core i c
  is_enabled core (Take i) = can_take_in core i
  is_enabled core (Enter i) = can_enter_in core i
  is_enabled core (Report i) = can_report_in core i
  is_enabled core Cross = can_cross core.barrier

  -- ---- what

  -- the parts with another timeline i, mail of timeline i, or barrier
  abbrev pub with_timeline : ℕ → TimelineOf B S P → CoreView B S P → CoreView B S P
  with_timeline i t core = record core { timelines = slice_set core.timelines i t }

  abbrev pub with_mail_of : ℕ → Mails P → CoreView B S P → CoreView B S P
  with_mail_of i mail core = record core { mails = slice_set core.mails i mail }

  abbrev pub with_barrier : BarrierFields → CoreView B S P → CoreView B S P
  with_barrier b core = record core { barrier = b }

  -- timeline i executed its first pending event
  pub record IsExecutedIn (r : Reaction S P) (i : ℕ) (core after : CoreView B S P) : Type 0 where
    pub timeline : TimelineOf B S P
    pub next : TimelineOf B S P
    pub own : slice_get core.timelines i ≡ Some timeline
    pub free : refusal timeline ≡ None
    pub run : IsRun r timeline next
    pub is : after ≡ with_timeline i next core

  -- there was no memory for it: timeline i is spent
  pub record IsSpentIn (i : ℕ) (core after : CoreView B S P) : Type 0 where
    pub timeline : TimelineOf B S P
    pub next : TimelineOf B S P
    pub own : slice_get core.timelines i ≡ Some timeline
    pub free : refusal timeline ≡ None
    pub spent : next ≡ spent_of timeline next
    pub order : IsInOrder next
    pub is : after ≡ with_timeline i next core

  -- timeline i posted on channel c
  pub record IsPostedIn (i c : ℕ) (core after : CoreView B S P) : Type 0 where
    pub end : CrossEnd
    pub listed : end_at c core.ends ≡ Some end
    pub sender : end.sender ≡ i
    pub timeline : TimelineOf B S P
    pub next : TimelineOf B S P
    pub own : slice_get core.timelines i ≡ Some timeline
    pub mail : Mails P
    pub filled : Mails P
    pub its_mail : slice_get core.mails end.receiver ≡ Some mail
    pub may : can_post timeline c (mail_at mail c) ≡ true
    pub posted : IsPostedTo c timeline next mail filled
    pub is : after ≡ with_mail_of end.receiver filled (with_timeline i next core)

  -- timeline i took its mail
  pub record IsTakenIn (i : ℕ) (core after : CoreView B S P) : Type 0 where
    pub timeline : TimelineOf B S P
    pub next : TimelineOf B S P
    pub own : slice_get core.timelines i ≡ Some timeline
    pub mail : Mails P
    pub emptied : Mails P
    pub own_mail : slice_get core.mails i ≡ Some mail
    pub may : can_take timeline mail mail.channels ≡ true
    pub taken : IsTakenFrom mail emptied timeline next
    pub is : after ≡ with_mail_of i emptied (with_timeline i next core)

  -- timeline i entered the barrier's window
  pub record IsEnteredIn (i : ℕ) (core after : CoreView B S P) : Type 0 where
    pub timeline : TimelineOf B S P
    pub own : slice_get core.timelines i ≡ Some timeline
    pub may : can_enter timeline core.barrier.window core.barrier.counts ≡ true
    pub is : after ≡ with_timeline i (entered_at core.barrier.window timeline) core

  -- timeline i reported to the barrier
  pub record IsReportedIn (i : ℕ) (core after : CoreView B S P) : Type 0 where
    pub timeline : TimelineOf B S P
    pub own : slice_get core.timelines i ≡ Some timeline
    pub may : can_report timeline i core.barrier ≡ true
    pub is : after ≡ with_barrier (with_report i (ahead_in timeline) (counts_in timeline) core.barrier) core

  -- the barrier was crossed, or has ended
  pub record IsCrossedIn (core after : CoreView B S P) : Type 0 where
    pub may : can_cross core.barrier ≡ true
    pub is : after ≡ with_barrier (after_crossing (crossing core.barrier) core.barrier) core

  -- the step was made
  abbrev pub IsMade : Reaction S P → Step → CoreView B S P → CoreView B S P → Type 0
  IsMade r (Execute i) core after = IsExecutedIn r i core after
  IsMade r (Post i c) core after = IsPostedIn i c core after
  IsMade r (Take i) core after = IsTakenIn i core after
  IsMade r (Enter i) core after = IsEnteredIn i core after
  IsMade r (Report i) core after = IsReportedIn i core after
  IsMade r Cross core after = IsCrossedIn core after

  -- entries before a time were given up
  abbrev pub without_below : ℕ → CoreView B S P → CoreView B S P
  without_below below core = record core { timelines = map (without below) core.timelines }
