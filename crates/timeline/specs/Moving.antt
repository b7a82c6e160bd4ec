-- What a timeline takes in and hands out, and how it goes on to a later window.
use Rattle.std.specs.Prelude.{ℕ, ◌≡◌, ◌+◌, ◌≤◌, ◌<◌, ◌^◌, cond, nat_lt, nat_le, ◌&&◌, min, max, Bool, List, [], length, Some}
use Rattle.std.specs.List.{filter}
use Rattle.event_order.specs.Pending.{Among, put_all}
use Rattle.ssf_model.specs.declared.event.Entry.{Entry}
use Rattle.ssf_model.specs.declared.event.Parcel.{Parcel}
use Rattle.timeline_parts.specs.declared.ends.InEnd.{InEnd}
use Rattle.timeline_parts.specs.declared.ends.OutEnd.{OutEnd}
use Rattle.timeline_parts.specs.Tables.{numbers_of, item_at, changed}
use Rattle.timeline_parts.specs.Settling.{AreNew}
use Rattle.timeline.specs.View.{TimelineOf, key_of}
use Rattle.timeline.specs.Holding.{low_in, has_taken}

-- the end of a channel from which so many events are taken, with this appointment if it is a later one
abbrev pub taken_end : ℕ → ℕ → InEnd → InEnd
taken_end taken appointment e = record { place = e.place; appointed = e.appointed; taken = taken; held = max e.held appointment }

-- the end of a channel from which all was posted
abbrev pub posted_end : {P : Type 0} → OutEnd P → OutEnd P
posted_end o = record { appointed = o.appointed; delay = o.delay; posted = o.written; written = o.written; outbox = [] }

-- what stands in the outbox of an end, with the promise by the lower bound `low`, at most `top`
abbrev pub parcel_of : {P : Type 0} → ℕ → ℕ → OutEnd P → Parcel P
parcel_of low top o = record { first = o.posted; events = o.outbox; promise = cond o.appointed (min (low + o.delay) top) 0 }

-- the outbox of a channel is handed out: its end before, and the ends after
pub record IsPosted {P : Type 0} (ends : List (ℕ × OutEnd P)) (channel low top : ℕ) (parcel : Parcel P) (after : List (ℕ × OutEnd P)) : Type 0 where
  pub end : OutEnd P
  pub at : item_at channel ends ≡ Some end
  pub handed : parcel ≡ parcel_of low top end
  pub left : after ≡ changed channel posted_end ends

module _ {B S P : Type 0} where
  -- a parcel of a channel can be taken in: the channel comes from another timeline, and the keys of its events are new
  pub record MayTake (t : TimelineOf B S P) (channel : ℕ) (parcel : Parcel P) : Type 0 where
    pub known : Among channel (numbers_of t.in_ends)
    pub new : AreNew parcel.events t.pending
    pub end : parcel.first + length parcel.events < 2 ^ 64

  -- a parcel of a channel was taken in
  pub record IsTaken (t : TimelineOf B S P) (channel : ℕ) (parcel : Parcel P) (after : TimelineOf B S P) : Type 0 where
    pub spare : t.spare ≤ after.spare + length parcel.events
    pub is : after ≡ record t {
      in_ends = changed channel (taken_end (parcel.first + length parcel.events) parcel.promise) t.in_ends;
      pending = put_all key_of parcel.events t.pending;
      spare = after.spare;
    }

  -- the window is a later one, and as much was taken from each channel as the counts say
  abbrev pub can_enter : TimelineOf B S P → ℕ → List ℕ → Bool
  can_enter t window counts = nat_lt t.entered window && has_taken t.in_ends counts

  abbrev pub entered_at : ℕ → TimelineOf B S P → TimelineOf B S P
  entered_at window t = record t { entered = window; arrival = t.until + 1 }

  -- the outbox of a channel is handed out, with the promise by the lower bound
  pub record IsHandedOut (t : TimelineOf B S P) (channel : ℕ) (parcel : Parcel P) (after : TimelineOf B S P) : Type 0 where
    pub posted : IsPosted t.out_ends channel (low_in t) (t.until + 1) parcel after.out_ends
    pub same : after ≡ record t { out_ends = after.out_ends }

  -- the entries from a time on
  abbrev pub without : ℕ → TimelineOf B S P → TimelineOf B S P
  without below t = record t { history = filter (λ (e : Entry). nat_le below e.key.time) t.history }
