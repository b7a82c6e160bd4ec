-- What a contract sees of a timeline.
use Rattle.std.specs.Prelude.{ℕ, ◌++◌, Bool, List, map}
use Rattle.event_order.specs.declared.key.Key.{Key}
use Rattle.ssf_model.specs.declared.event.Event.{Event}
use Rattle.ssf_model.specs.declared.event.Entry.{Entry}
use Rattle.ssf_model.specs.declared.entity.Entity.{Entity}
use Rattle.ssf_model.specs.declared.plan.Mapping.{Mapping}
use Rattle.timeline_parts.specs.declared.ends.InEnd.{InEnd}
use Rattle.timeline_parts.specs.declared.ends.OutEnd.{OutEnd}
use Rattle.timeline_parts.specs.Sending.{mappings_on}
use Rattle.timeline_parts.specs.declared.part.Cross.{Cross}

-- the last time that it executes and the most events; its entities with their numbers, and the counts of the channels on
-- which they write; the mappings between its entities, those that come from other timelines and those that go to others,
-- and the ends of these two kinds of channels; its pending events in key order, and room for how many more; the window
-- that it entered, and the least time, from this window on, of what it has written to others since; how many events it
-- has executed, whether it is spent, and the entries that it keeps
pub record TimelineOf (B S P : Type 0) : Type 0 where
  pub until : ℕ
  pub budget : ℕ
  pub entities : List (ℕ × Entity B S P)
  pub counts : List (ℕ × ℕ)
  pub inside : List Mapping
  pub ins : List Cross
  pub outs : List Cross
  pub in_ends : List (ℕ × InEnd)
  pub out_ends : List (ℕ × OutEnd P)
  pub pending : List (Event P)
  pub spare : ℕ
  pub entered : ℕ
  pub arrival : ℕ
  pub executed : ℕ
  pub spent : Bool
  pub history : List Entry

abbrev pub mapping_of : Cross → Mapping
mapping_of cross = cross.mapping

-- the mappings of one out-channel: those inside the timeline first
abbrev pub routes_by : List Mapping → List Cross → ℕ → List Mapping
routes_by inside outs out = mappings_on out inside ++ mappings_on out (map mapping_of outs)

abbrev pub key_of : {P : Type 0} → Event P → Key
key_of e = e.key

abbrev pub time_in : {P : Type 0} → Event P → ℕ
time_in e = e.key.time
