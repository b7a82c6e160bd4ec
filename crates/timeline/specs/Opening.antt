-- A timeline at first, and the part that it gives back.
use Rattle.std.specs.Prelude.{ℕ, ◌≡◌, ◌+◌, false, List, [], map}
use Rattle.event_order.specs.Pending.{put_all}
use Rattle.ssf_model.specs.declared.event.Event.{Event}
use Rattle.ssf_model.specs.declared.plan.Mapping.{Mapping}
use Rattle.timeline_parts.specs.declared.ends.InEnd.{InEnd}
use Rattle.timeline_parts.specs.declared.ends.OutEnd.{OutEnd}
use Rattle.timeline_parts.specs.declared.part.Cross.{Cross}
use Rattle.timeline_parts.specs.declared.part.Part.{Part}
use Rattle.timeline.specs.View.{TimelineOf, key_of, routes_by}

-- the ends of the channels at first: nothing is taken, and nothing written
abbrev pub first_in : Cross → ℕ × InEnd
first_in cross = (cross.mapping.channel, record { place = cross.place; appointed = cross.appointed; taken = 0; held = 0 })

abbrev pub first_out : {P : Type 0} → Cross → ℕ × OutEnd P
first_out cross = (cross.mapping.channel, record { appointed = cross.appointed; delay = cross.mapping.delay; posted = 0; written = 0; outbox = [] })

-- a timeline that has this part and has executed nothing
pub record IsFirst {B S P : Type 0} (part : Part B S P) (until budget : ℕ) (t : TimelineOf B S P) : Type 0 where
  pub last : t.until ≡ until
  pub most : t.budget ≡ budget
  pub entities : t.entities ≡ part.entities
  pub counts : t.counts ≡ part.counts
  pub inside : t.inside ≡ part.inside
  pub ins : t.ins ≡ part.ins
  pub outs : t.outs ≡ part.outs
  pub in_ends : t.in_ends ≡ map first_in part.ins
  pub out_ends : t.out_ends ≡ map first_out part.outs
  pub pending : t.pending ≡ put_all key_of part.events []
  pub entered : t.entered ≡ 0
  pub arrival : t.arrival ≡ until + 1
  pub executed : t.executed ≡ 0
  pub spent : t.spent ≡ false
  pub history : t.history ≡ []

-- the part that a timeline makes
abbrev pub part_of : {B S P : Type 0} → TimelineOf B S P → Part B S P
part_of t = record { entities = t.entities; events = t.pending; inside = t.inside; ins = t.ins; outs = t.outs; counts = t.counts }

-- what is made beside the lists of a part, for these mappings and events
pub record IsOpened {P : Type 0} (inside : List Mapping) (ins outs : List Cross) (events : List (Event P)) (routes : ℕ → List Mapping)
    (in_ends : List (ℕ × InEnd)) (out_ends : List (ℕ × OutEnd P)) (pending : List (Event P)) : Type 0 where
  pub sends : (out : ℕ) → routes out ≡ routes_by inside outs out
  pub ins_are : in_ends ≡ map first_in ins
  pub outs_are : out_ends ≡ map first_out outs
  pub events_are : pending ≡ put_all key_of events []
