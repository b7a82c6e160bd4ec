-- The steps on two parts: when they can be made, and what becomes of the two.
use Rattle.std.specs.Prelude.{ℕ, ◌≡◌, ◌+◌, Bool, true, false, cond, nat_eq, nat_le, nat_lt, ◌&&◌, ◌||◌, not, min, List, [], ◌∷◌, ◌++◌, map, length, Option, Some, None, slice_get, slice_index}
use Rattle.event_order.specs.Pending.{Among, put_all}
use Rattle.ssf_model.specs.declared.event.Event.{Event}
use Rattle.ssf_model.specs.declared.event.Parcel.{Parcel}
use Rattle.timeline_parts.specs.declared.ends.InEnd.{InEnd}
use Rattle.timeline_parts.specs.declared.ends.OutEnd.{OutEnd}
use Rattle.timeline_parts.specs.Tables.{numbers_of, item_at, changed}
use Rattle.timeline_parts.specs.Sending.{written_of}
use Rattle.timeline_parts.specs.declared.part.Cross.{Cross}
use Rattle.timeline.specs.View.{TimelineOf, key_of}
use Rattle.timeline.specs.Holding.{low_in, taken_of, held_of}
use Rattle.timeline_parts.specs.Parts.{channel_of}
use Rattle.timeline.specs.Moving.{taken_end, posted_end}
use Rattle.timeline.specs.Lines.{posted_of, outbox_of}
use Rattle.appointments.specs.Mails.{ChannelMail, Mails, mail_at}
use Rattle.appointments.specs.Posts.{posted_mail, taken_mail, taken_parcel}
use Rattle.barrier_window.specs.BarrierFields.{BarrierFields}
use Rattle.sync_steps.specs.declared.steps.Stepped.{Stepped}
use Rattle.sync_steps.specs.declared.steps.Stepped.TheVariants.{Did, NotEnabled}

-- the answer of a step that is enabled or not
abbrev pub stepped : Bool → Stepped
stepped enabled = cond enabled Did NotEnabled

-- what can be promised by an end, where the lower bound is `low`, at most `top`: 0 where it is no appointed one
abbrev pub promised_by : {P : Type 0} → ℕ → ℕ → Option (OutEnd P) → ℕ
promised_by low top None = 0
promised_by low top (Some end) = cond end.appointed (min (low + end.delay) top) 0

-- the same of a mapping to another timeline
abbrev pub promised_on : Cross → ℕ → ℕ → ℕ
promised_on x low top = cond x.appointed (min (low + x.mapping.delay) top) 0

-- and of the first of some mappings that has channel c
abbrev pub promised_among : List Cross → ℕ → ℕ → ℕ → ℕ
promised_among [] c low top = 0
promised_among (x ∷ xs) c low top = cond (nat_eq (channel_of x) c) (promised_on x low top) (promised_among xs c low top)

-- as much was taken from the channels of some mappings, which have these ends, as the counts say, which stand at the mappings' places
abbrev pub has_taken_on : List (ℕ × InEnd) → List ℕ → List Cross → Bool
has_taken_on ends counts [] = true
has_taken_on ends counts (x ∷ xs) = nat_le (slice_index counts x.place) (taken_of ends (channel_of x)) && has_taken_on ends counts xs

-- all events of the mail on some channels
abbrev pub events_on : {P : Type 0} → Mails P → List ℕ → List (Event P)
events_on mail [] = []
events_on mail (c ∷ cs) = (mail_at mail c).events ++ events_on mail cs

-- the channel and the place of an end and of a mapping, and the channel and the delay, with whether it is an appointed one
abbrev pub in_place : ℕ × InEnd → ℕ × ℕ
in_place x = (x.0, x.1.place)

abbrev pub cross_place : Cross → ℕ × ℕ
cross_place x = (channel_of x, x.place)

abbrev pub out_delay : {P : Type 0} → ℕ × OutEnd P → ℕ × (Bool × ℕ)
out_delay x = (x.0, (x.1.appointed, x.1.delay))

abbrev pub cross_delay : Cross → ℕ × (Bool × ℕ)
cross_delay x = (channel_of x, (x.appointed, x.mapping.delay))

-- a timeline of a barrier has not reported in this round
abbrev pub is_silent : Option (Option ℕ) → Bool
is_silent None = false
is_silent (Some None) = true
is_silent (Some (Some least)) = false

module _ {B S P : Type 0} where
  -- a timeline has an end for each of its mappings to and from other timelines, in their order
  pub record HasItsEnds (t : TimelineOf B S P) : Type 0 where
    pub ins : numbers_of t.in_ends ≡ map channel_of t.ins
    pub outs : numbers_of t.out_ends ≡ map channel_of t.outs

  -- and each end stands at the place of its mapping, and has its delay, and is an appointed one where the mapping is
  pub record HasItsCrosses (t : TimelineOf B S P) : Type 0 where
    pub ins : map in_place t.in_ends ≡ map cross_place t.ins
    pub outs : map out_delay t.out_ends ≡ map cross_delay t.outs

  -- ---- post

  -- what a timeline can promise on a channel
  abbrev pub promise_in : TimelineOf B S P → ℕ → ℕ
  promise_in t c = promised_by (low_in t) (t.until + 1) (item_at c t.out_ends)

  -- its outbox on a channel is not empty, or its promise is above the appointment of the mail
  abbrev pub can_post : TimelineOf B S P → ℕ → ChannelMail P → Bool
  can_post t c mail = nat_lt 0 (length (outbox_of t.out_ends c)) || nat_lt mail.appointment (promise_in t c)

  -- the whole outbox, with the promise
  abbrev pub parcel_in : TimelineOf B S P → ℕ → Parcel P
  parcel_in t c = record { first = posted_of t.out_ends c; events = outbox_of t.out_ends c; promise = promise_in t c }

  abbrev pub posted_timeline : ℕ → TimelineOf B S P → TimelineOf B S P
  posted_timeline c t = record t { out_ends = changed c posted_end t.out_ends }

  -- the outbox of a timeline on channel c came to the mail
  pub record IsPostedTo (c : ℕ) (t after : TimelineOf B S P) (mail mail_after : Mails P) : Type 0 where
    pub timeline : after ≡ posted_timeline c t
    pub channels : mail_after.channels ≡ mail.channels
    pub row : mail_at mail_after c ≡ posted_mail (parcel_in t c) (mail_at mail_after c).spare (mail_at mail c)
    pub others : (k : ℕ) → (k ≡ c → ⊥) → mail_at mail_after k ≡ mail_at mail k

  -- ---- take

  -- a mail is that of a timeline: it is on the channels that come to it, and counts as taken what the timeline does
  pub record IsMailOf (mail : Mails P) (t : TimelineOf B S P) : Type 0 where
    pub channels : mail.channels ≡ map channel_of t.ins
    pub ends : numbers_of t.in_ends ≡ map channel_of t.ins
    pub taken : (c : ℕ) → Among c mail.channels → (mail_at mail c).taken ≡ taken_of t.in_ends c

  -- the mail of some channels has an event, or an appointment above the one that the timeline holds
  abbrev pub can_take : TimelineOf B S P → Mails P → List ℕ → Bool
  can_take t mail [] = false
  can_take t mail (c ∷ cs) = (nat_lt 0 (length (mail_at mail c).events) || nat_lt (held_of t.in_ends c) (mail_at mail c).appointment) || can_take t mail cs

  -- a parcel of a channel is taken in, and the mail on some channels, one after the other
  abbrev pub taken_on : ℕ → Parcel P → TimelineOf B S P → TimelineOf B S P
  taken_on c parcel t = record t {
    in_ends = changed c (taken_end (parcel.first + length parcel.events) parcel.promise) t.in_ends;
    pending = put_all key_of parcel.events t.pending;
  }

  abbrev pub taken_all : Mails P → List ℕ → TimelineOf B S P → TimelineOf B S P
  taken_all mail [] t = t
  taken_all mail (c ∷ cs) t = taken_all mail cs (taken_on c (taken_parcel (mail_at mail c)) t)

  -- all of the mail came to the timeline, which has other room for events then
  pub record IsTakenFrom (mail mail_after : Mails P) (t after : TimelineOf B S P) : Type 0 where
    pub timeline : after ≡ record (taken_all mail mail.channels t) { spare = after.spare }
    pub channels : mail_after.channels ≡ mail.channels
    pub rows : (c : ℕ) → Among c mail.channels → mail_at mail_after c ≡ taken_mail (mail_at mail c)

  -- ---- report

  -- the barrier has not ended, the timeline, which has the number n, has not reported, and it stands in the barrier's
  -- window with nothing ahead before it
  abbrev pub can_report : TimelineOf B S P → ℕ → BarrierFields → Bool
  can_report t n b = not b.ended && (is_silent (slice_get b.reports n) && (nat_eq t.entered b.window && nat_le b.window (low_in t)))

  -- how many events the timeline has written on each channel that goes to another one
  abbrev pub count_on : TimelineOf B S P → Cross → ℕ × ℕ
  count_on t cross = (channel_of cross, written_of t.out_ends (channel_of cross))

  abbrev pub counts_in : TimelineOf B S P → List (ℕ × ℕ)
  counts_in t = map (count_on t) t.outs
