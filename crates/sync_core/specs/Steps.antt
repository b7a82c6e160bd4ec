-- What is to hold of all parts before a step, and which steps there are.
use Rattle.std.specs.Prelude.{ℕ, ◌≡◌, ◌<◌, cond, nat_eq, Option, List, [], ◌∷◌, ◌++◌, map, length, Some, None, slice_get}
use Rattle.std.specs.List.{All, Contains, filter, flat_map, range_with_len, enumerate_from}
use Rattle.event_order.specs.Pending.{Among}
use Rattle.ssf_model.specs.declared.event.Event.{Event}
use Rattle.ssf_model.specs.Reaction.{Reaction, Validity}
use Rattle.timeline_parts.specs.Parts.{channel_of}
use Rattle.timeline_parts.specs.Tables.{numbers_of}
use Rattle.timeline_parts.specs.Settling.{AreNew}
use Rattle.plan_shares.specs.declared.crosses.CrossEnd.{CrossEnd}
use Rattle.timeline.specs.View.{TimelineOf}
use Rattle.timeline.specs.Executing.{refusal, MayRun}
use Rattle.timeline.specs.Lines.{posted_of}
use Rattle.appointments.specs.Mails.{Mails, mail_at, posted_of as posted_to}
use Rattle.sync_steps.specs.declared.steps.Step.{Step}
use Rattle.sync_steps.specs.declared.steps.Step.TheVariants.{Execute, Post, Take, Enter, Report, Cross}
use Rattle.sync_steps.specs.Between.{IsMailOf, events_on}
use Rattle.core_rules.specs.Cores.{CoreView}
use Rattle.core_rules.specs.Stepping.{is_enabled, IsSpentIn}

module _ {B S P : Type 0} where
  -- ---- what is to hold

  -- timeline i can execute its first pending event where nothing refuses it
  abbrev pub MayExecute : Validity S → Reaction S P → TimelineOf B S P → Type 0
  MayExecute valid r t = (event : Event P) (rest : List (Event P)) → t.pending ≡ event ∷ rest → refusal t ≡ None → MayRun valid r t event rest

  -- and the barrier knows its channels to others, and its mail is its own and has new events
  pub record MayStepOn (valid : Validity S) (r : Reaction S P) (core : CoreView B S P) (i : ℕ) (t : TimelineOf B S P) : Type 0 where
    pub run : MayExecute valid r t
    pub known : All (Contains core.barrier.channels) (map channel_of t.outs)
    pub own : (mail : Mails P) → slice_get core.mails i ≡ Some mail → IsMailOf mail t
    pub new : (mail : Mails P) → slice_get core.mails i ≡ Some mail → AreNew (events_on mail mail.channels) t.pending

  -- a channel leads from a timeline to a mail, which counts as posted what the timeline does
  pub record IsJoined (core : CoreView B S P) (e : CrossEnd) : Type 0 where
    pub sender : e.sender < length core.timelines
    pub receiver : e.receiver < length core.mails
    pub out : (t : TimelineOf B S P) → slice_get core.timelines e.sender ≡ Some t → Among e.channel (numbers_of t.out_ends)
    pub into : (mail : Mails P) → slice_get core.mails e.receiver ≡ Some mail → Contains mail.channels e.channel
    pub posted : (t : TimelineOf B S P) (mail : Mails P) → slice_get core.timelines e.sender ≡ Some t → slice_get core.mails e.receiver ≡ Some mail
        → posted_to (mail_at mail e.channel) ≡ posted_of t.out_ends e.channel

  pub record MayStep (valid : Validity S) (r : Reaction S P) (core : CoreView B S P) : Type 0 where
    pub mails : length core.mails ≡ length core.timelines
    pub reports : length core.barrier.reports ≡ length core.timelines
    pub each : (i : ℕ) (t : TimelineOf B S P) → slice_get core.timelines i ≡ Some t → MayStepOn valid r core i t
    pub joined : (e : CrossEnd) → Among e core.ends → IsJoined core e

  -- ---- all steps

  -- those of these timelines, in the order of their kinds and then of their numbers
  abbrev pub posts_of : ℕ × TimelineOf B S P → List Step
  posts_of x = map (λ cross. Post x.0 (channel_of cross)) x.1.outs

  abbrev pub numbers_in : CoreView B S P → List ℕ
  numbers_in core = range_with_len 0 (length core.timelines)

  abbrev pub all_steps : CoreView B S P → List Step
  all_steps core =
      map Execute (numbers_in core) ++ flat_map posts_of (enumerate_from 0 core.timelines) ++ map Take (numbers_in core)
      ++ map Enter (numbers_in core) ++ map Report (numbers_in core) ++ Cross ∷ []

  -- those that are enabled
  abbrev pub enabled_steps : CoreView B S P → List Step
  enabled_steps core = filter (is_enabled core) (all_steps core)

  -- ---- want of memory

  -- there was no memory for a step: a timeline that was to execute is spent, and else nothing has changed
  abbrev pub IsRefused : Step → CoreView B S P → CoreView B S P → Type 0
  IsRefused (Execute i) core after = IsSpentIn i core after
  IsRefused (Post i c) core after = after ≡ core
  IsRefused (Take i) core after = after ≡ core
  IsRefused (Enter i) core after = after ≡ core
  IsRefused (Report i) core after = after ≡ core
  IsRefused Cross core after = after ≡ core

-- the receiver of a channel with this end, where it goes from this timeline
abbrev pub receiver_from : ℕ → Option CrossEnd → Option ℕ
receiver_from sender None = None
receiver_from sender (Some e) = cond (nat_eq e.sender sender) (Some e.receiver) None
