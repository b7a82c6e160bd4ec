-- A timeline as the rules of the six steps see it, and how its ends stand in a net.
use Rattle.std.specs.Prelude.{ℕ, ◌≡◌, ◌+◌, List, [], length, Some, option_map, unwrap_or}
use Rattle.event_order.specs.Pending.{Among}
use Rattle.ssf_model.specs.declared.event.Event.{Event}
use Rattle.ssf_model.specs.declared.event.Parcel.{Parcel}
use Rattle.ssf_model.specs.Scene.{Net}
use Rattle.sync_rules.specs.Parts.{Line, MailOf}
use Rattle.sync_rules.specs.Bounds.{IsInto, IsOutOf}
use Rattle.timeline_parts.specs.declared.ends.OutEnd.{OutEnd}
use Rattle.timeline_parts.specs.Tables.{numbers_of, item_at}
use Rattle.timeline_parts.specs.Sending.{written_of}
use Rattle.timeline.specs.View.{TimelineOf}
use Rattle.timeline.specs.Holding.{taken_of, held_of}

-- how many events were posted on a channel, and what stands in its outbox: nothing of a channel that has no such end
abbrev pub posted_of : {P : Type 0} → List (ℕ × OutEnd P) → ℕ → ℕ
posted_of ends c = unwrap_or (option_map (λ o. o.posted) (item_at c ends)) 0

abbrev pub outbox_of : {P : Type 0} → List (ℕ × OutEnd P) → ℕ → List (Event P)
outbox_of ends c = unwrap_or (option_map (λ o. o.outbox) (item_at c ends)) []

-- the timeline at a moment of the run
abbrev pub line_of : {B S P : Type 0} → ℕ → TimelineOf B S P → Line (Event P)
line_of moment t = record {
  moment = moment;
  executed = t.executed;
  pending = t.pending;
  entered = t.entered;
  arrival = t.arrival;
  taken = taken_of t.in_ends;
  held = held_of t.in_ends;
  posted = posted_of t.out_ends;
  written = written_of t.out_ends;
  outbox = outbox_of t.out_ends;
}

-- a parcel of a channel as the mail from which it is taken
abbrev pub mail_of : {P : Type 0} → Parcel P → MailOf (Event P)
mail_of parcel = record { events = parcel.events; posted = parcel.first + length parcel.events; taken = parcel.first; appointment = parcel.promise }

-- the ends of timeline i are those of the net's channels to it and from it
pub record IsPlacedIn {B S P : Type 0} (net : Net) (i : ℕ) (t : TimelineOf B S P) : Type 0 where
  pub into : (c : ℕ) → Among c (numbers_of t.in_ends) → IsInto net i c
  pub ins : (c : ℕ) → IsInto net i c → (e : _) × (item_at c t.in_ends ≡ Some e) × (e.appointed ≡ net.appointed c)
  pub out : (c : ℕ) → Among c (numbers_of t.out_ends) → IsOutOf net i c
  pub outs : (c : ℕ) → IsOutOf net i c → (o : OutEnd P) × (item_at c t.out_ends ≡ Some o) × (o.appointed ≡ net.appointed c) × (o.delay ≡ net.delay c)
