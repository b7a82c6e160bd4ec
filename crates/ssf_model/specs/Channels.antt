-- From what an entity's actions write to events on channels: a write on an out-channel goes on each of its mappings,
-- the end of a wait on the timer channel of its process, and each channel counts its writes.
use Rattle.std.specs.Prelude.{ℕ, ◌+◌, Bool, cond, nat_eq, List, [], ◌∷◌, map, Option, Some, None, slice_get}
use Rattle.std.specs.List.{filter, flat_map}
use Rattle.event_order.specs.declared.key.Key.{Key}
use Rattle.event_order.specs.Order.{child_of}
use Rattle.ssf_model.specs.declared.wait.Kind.{Kind}
use Rattle.ssf_model.specs.declared.wait.Kind.TheVariants.{Timer, Message}
use Rattle.ssf_model.specs.declared.out.Written.{Written}
use Rattle.ssf_model.specs.declared.out.Written.TheVariants.{Channel, Timer as TimerWrite}
use Rattle.ssf_model.specs.declared.event.Event.{Event}
use Rattle.ssf_model.specs.declared.process.Process.{Process}
use Rattle.ssf_model.specs.declared.entity.Entity.{Entity}
use Rattle.ssf_model.specs.declared.plan.Mapping.{Mapping}
use Rattle.ssf_model.specs.Reaction.{Reaction}
use Rattle.ssf_model.specs.Deliver.{Delivered, delivered}

-- what goes on a channel, before it has a number: with its total delay, to an entity
pub record Sent (P : Type 0) : Type 0 where
  pub channel : ℕ
  pub priority : ℕ
  pub delay : ℕ
  pub entity : ℕ
  pub kind : Kind P

-- a message on one mapping
abbrev pub message : {P : Type 0} → ℕ → P → Mapping → Sent P
message delay payload m = record { channel = m.channel; priority = m.priority; delay = m.delay + delay; entity = m.to; kind = Message m.in_channel payload }

-- the end of a wait of process number `process` of an entity, on its timer channel
abbrev pub wait_end : {P : Type 0} → ℕ → ℕ → ℕ → ℕ → Option ℕ → List (Sent P)
wait_end entity process delay ticket None = []
wait_end entity process delay ticket (Some channel) = record { channel = channel; priority = 0; delay = delay; entity = entity; kind = Timer process ticket } ∷ []

abbrev pub timer_of : Option Process → Option ℕ
timer_of None = None
timer_of (Some p) = p.timer

-- what a write of an entity with these processes sends
abbrev pub sent : {P : Type 0} → List Mapping → ℕ → List Process → Written P → List (Sent P)
sent mappings entity processes (Channel out delay payload) = map (message delay payload) (filter (λ m. nat_eq m.out_channel out) mappings)
sent mappings entity processes (TimerWrite process delay ticket) = wait_end entity process delay ticket (timer_of (slice_get processes process))

-- an event at an entity by the wake rule
abbrev pub delivered_to : {B S P : Type 0} → Reaction S P → Event P → Entity B S P → Delivered S P
delivered_to r event entity = delivered r event.key.time event.kind 0 entity.state entity.processes

-- the entity after it
abbrev pub entity_after : {B S P : Type 0} → Delivered S P → Entity B S P → Entity B S P
entity_after d entity = record { state = d.state; processes = d.processes; in_channels = entity.in_channels; out_channels = entity.out_channels }

-- what an event at an entity sends, in the order in which it is written
abbrev pub sent_by : {B S P : Type 0} → Reaction S P → List Mapping → Event P → Entity B S P → List (Sent P)
sent_by r mappings event entity =
    let d = delivered_to r event entity in
    flat_map (sent mappings event.entity d.processes) d.writes

-- the counts after one more write on a channel, and after all of these
abbrev pub raised : (ℕ → ℕ) → ℕ → ℕ → ℕ
raised counts channel = λ c. cond (nat_eq c channel) (counts c + 1) (counts c)

abbrev pub counted : {P : Type 0} → (ℕ → ℕ) → List (Sent P) → ℕ → ℕ
counted counts [] = counts
counted counts (s ∷ ss) = counted (raised counts s.channel) ss

-- the events that these are, written by an event with this key: each has its channel's count as its number
abbrev pub numbered : {P : Type 0} → Key → (ℕ → ℕ) → List (Sent P) → List (Event P)
numbered key counts [] = []
numbered key counts (s ∷ ss) =
    record { key = child_of key s.delay s.priority s.channel (counts s.channel); entity = s.entity; kind = s.kind } ∷ numbered key (raised counts s.channel) ss

-- the test that this is sent on channel c
abbrev pub is_on : {P : Type 0} → ℕ → Sent P → Bool
is_on c s = nat_eq s.channel c
