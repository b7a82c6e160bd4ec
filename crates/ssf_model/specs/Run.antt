-- Plans, and the run of a plan: its events one by one in the order of their keys.
use Rattle.std.specs.Prelude.{ℕ, ◌≡◌, ◌+◌, ◌*◌, ◌<◌, ◌≤◌, ◌^◌, zero, suc, Bool, List, [], ◌++◌, map, length, Option, Some, None, option_map, option_to_list, slice_get, slice_set, slice_index}
use Rattle.std.specs.List.{flat_map, range_with_len}
use Rattle.std.specs.List.Sorted.{IsStrictlyIncreasing}
use Rattle.event_order.specs.declared.key.Key.{Key}
use Rattle.event_order.specs.Pending.{Among, IsRising}
use Rattle.event_order.specs.Machine.{Machine, World, after, event, first_events, option_list}
use Rattle.ssf_model.specs.declared.wait.Kind.{Kind}
use Rattle.ssf_model.specs.declared.wait.Kind.TheVariants.{Begin, Timer, Message}
use Rattle.ssf_model.specs.declared.event.Event.{Event}
use Rattle.ssf_model.specs.declared.event.Entry.{Entry}
use Rattle.ssf_model.specs.declared.process.Process.{Process}
use Rattle.ssf_model.specs.declared.entity.Entity.{Entity}
use Rattle.ssf_model.specs.declared.plan.Mapping.{Mapping}
use Rattle.ssf_model.specs.declared.plan.Plan.{Plan}
use Rattle.ssf_model.specs.Wake.{HasTimer, IsTimelyTicket}
use Rattle.ssf_model.specs.Reaction.{Reaction, Validity, Each, channels_named, LatestTime, LongestDelay}
use Rattle.ssf_model.specs.Drafts.{MostChannels, MostEnds}
use Rattle.ssf_model.specs.Entities.{IsValidEntity}
use Rattle.ssf_model.specs.Channels.{delivered_to, entity_after, sent_by, counted, numbered}

-- the state of a run: its entities, and how many writes each channel counts
pub record States (B S P : Type 0) : Type 0 where
  pub entities : List (Entity B S P)
  pub counts : ℕ → ℕ

-- what an event makes of the state, at its entity if there is one
abbrev pub acts_at : {B S P : Type 0} → Reaction S P → List Mapping → States B S P → Event P → Option (Entity B S P) → States B S P
acts_at r mappings x e None = x
acts_at r mappings x e (Some entity) = record {
  entities = slice_set x.entities e.entity (entity_after (delivered_to r e entity) entity);
  counts = counted x.counts (sent_by r mappings e entity);
}

-- the events that it writes
abbrev pub writes_at : {B S P : Type 0} → Reaction S P → List Mapping → States B S P → Event P → Option (Entity B S P) → List (Event P)
writes_at r mappings x e None = []
writes_at r mappings x e (Some entity) = numbered e.key x.counts (sent_by r mappings e entity)

-- the machine whose run is that of the plans with this reaction and these mappings
unfoldable pub machine_of : {B S P : Type 0} → Reaction S P → List Mapping → Machine (States B S P) (Event P)
machine_of r mappings = record {
  key = λ e. e.key;
  acts = λ x e. acts_at r mappings x e (slice_get x.entities e.entity);
  writes = λ x e. writes_at r mappings x e (slice_get x.entities e.entity);
}

-- a list of counts as a function: a channel that is not in it has none
abbrev pub counts_of : List ℕ → ℕ → ℕ
counts_of counts = λ c. slice_index counts c

-- the state and the pending events with which the run of a plan begins
abbrev pub opening : {B S P : Type 0} → Plan B S P → World (States B S P) (Event P)
opening plan = record { state = record { entities = plan.entities; counts = counts_of plan.counts }; pending = plan.events }

-- the world after the first n events of a plan's run up to the time `until`; event number n, counted from 0; and the
-- first n events, or all where there are no more. `kept` is the cut
abbrev pub world_after : {B S P : Type 0} → Reaction S P → Plan B S P → ℕ → (Key → Bool) → ℕ → World (States B S P) (Event P)
world_after r plan until kept n = after (machine_of r plan.mappings) until kept (opening plan) n

abbrev pub run_event : {B S P : Type 0} → Reaction S P → Plan B S P → ℕ → (Key → Bool) → ℕ → Option (Event P)
run_event r plan until kept n = event (machine_of r plan.mappings) until kept (opening plan) n

abbrev pub run_events : {B S P : Type 0} → Reaction S P → Plan B S P → ℕ → (Key → Bool) → ℕ → List (Event P)
run_events r plan until kept n = first_events (machine_of r plan.mappings) until kept (opening plan) n

-- the timer channels of these entities, by entity and then by process
abbrev pub timers_of : {B S P : Type 0} → List (Entity B S P) → List ℕ
timers_of entities = flat_map (λ e. flat_map (λ p. option_to_list p.timer) e.processes) entities

-- at an opening the greatest count of a channel, the greatest ticket, the most events before it, and the latest time of a
-- pending event: a write by the latest event of a run arrives after at most two of the longest delays
abbrev pub MostCount : ℕ
MostCount = 5000000000000000000

abbrev pub MostTicket : ℕ
MostTicket = 1000000000000000000

abbrev pub MostBefore : ℕ
MostBefore = 1000000000000000000

abbrev pub LatestPending : ℕ
LatestPending = LatestTime + 2 * LongestDelay

-- there is an element of this number, and P holds of it
abbrev pub HasAt : {T : Type 0} → List T → ℕ → (T → Type 0) → Type 0
HasAt {T} xs i P = (x : T) × (slice_get xs i ≡ Some x) × P x

-- `lists` gives the own channels of each element: no two elements have one of them both
abbrev pub AreOwn : {T : Type 0} → (T → List ℕ) → List T → Type 0
AreOwn {T} lists xs = (i j c : ℕ) (x y : T) → slice_get xs i ≡ Some x → slice_get xs j ≡ Some y → Among c (lists x) → Among c (lists y) → i ≡ j

-- an entity's in-channels, or its out-channels: in rising order, so each stands there once, with numbers below the limit
pub record AreEnds (channels : List ℕ) : Type 0 where
  pub rising : IsStrictlyIncreasing channels
  pub below : Each (λ c. c < MostEnds) channels

-- a mapping leads from an own out-channel of an entity to an own in-channel of another or the same
pub record IsMappingOf {B S P : Type 0} (entities : List (Entity B S P)) (m : Mapping) : Type 0 where
  pub from : HasAt entities m.from (λ e. Among m.out_channel e.out_channels)
  pub to : HasAt entities m.to (λ e. Among m.in_channel e.in_channels)
  pub delay : m.delay ≤ LongestDelay
  pub priority : m.priority < 2 ^ 8

-- a process of an entity with these in-channels: its wait names the entity's own, and ends by itself only if it is timed
pub record IsProcessOf (ins : List ℕ) (p : Process) : Type 0 where
  pub waits : Each (λ c. Among c ins) (channels_named p.wait)
  pub untimed : p.timer ≡ None → HasTimer p.wait → ⊥
  pub ticket : p.ticket ≤ MostTicket

-- a pending end of a wait: on the timer channel of its process, with a ticket that the process gave out, by the rule of
-- tickets
pub record IsEndFor (channel ticket : ℕ) (p : Process) : Type 0 where
  pub on : p.timer ≡ Some channel
  pub given : ticket ≤ p.ticket
  pub ends : IsTimelyTicket p.wait p.ticket ticket

-- a message stands on the channel of a mapping that leads to its entity and in-channel
pub record IsMessageOn (e : ℕ) (key : Key) (channel : ℕ) (m : Mapping) : Type 0 where
  pub on : m.channel ≡ key.channel
  pub to : m.to ≡ e
  pub in_channel : m.in_channel ≡ channel
  pub priority : m.priority ≡ key.priority

-- a start event stands on the start channel of its entity, the end of a wait on the timer channel of its process, and
-- a message on the channel of a mapping
abbrev pub IsOnChannel : {B S P : Type 0} → (P → Type 0) → List (Entity B S P) → List Mapping → ℕ → Key → Kind P → Type 0
IsOnChannel carried entities mappings entity key Begin = (key.channel ≡ entity) × (key.priority ≡ 0)
IsOnChannel carried entities mappings entity key (Timer process ticket) =
    HasAt entities entity (λ e. HasAt e.processes process (IsEndFor key.channel ticket)) × (key.priority ≡ 0)
IsOnChannel carried entities mappings entity key (Message channel payload) =
    ((m : Mapping) × Among m mappings × IsMessageOn entity key channel m) × carried payload

-- a pending event of an opening
pub record IsPending {B S P : Type 0} (carried : P → Type 0) (plan : Plan B S P) (e : Event P) : Type 0 where
  pub entity : e.entity < length plan.entities
  pub on_channel : IsOnChannel carried plan.entities plan.mappings e.entity e.key e.kind
  pub round : e.key.round ≡ 0
  pub number : e.key.number < counts_of plan.counts e.key.channel
  pub time : e.key.time ≤ LatestPending

-- how a plan is wired, which no opening changes: each entity has in-channels and out-channels of its own, the timer
-- channels come after the start channels, by entity and then by process, and the mappings' channels after these
pub record IsWired {B S P : Type 0} (plan : Plan B S P) : Type 0 where
  pub ins : AreOwn (λ e. e.in_channels) plan.entities
  pub outs : AreOwn (λ e. e.out_channels) plan.entities
  pub in_ends : Each (λ e. AreEnds e.in_channels) plan.entities
  pub out_ends : Each (λ e. AreEnds e.out_channels) plan.entities
  pub timers : timers_of plan.entities ≡ range_with_len (length plan.entities) (length (timers_of plan.entities))
  pub channels : map (λ m. m.channel) plan.mappings ≡ range_with_len (length plan.entities + length (timers_of plan.entities)) (length plan.mappings)
  pub mappings : Each (IsMappingOf plan.entities) plan.mappings
  pub most : length plan.entities + length (timers_of plan.entities) + length plan.mappings ≤ MostChannels

-- where a plan opens: states that are valid with their waits, tickets, a count for each channel, and pending events in
-- key order
pub record IsOpen {B S P : Type 0} (valid : Validity S) (carried : P → Type 0) (plan : Plan B S P) : Type 0 where
  pub entities : Each (IsValidEntity valid) plan.entities
  pub processes : Each (λ e. Each (IsProcessOf e.in_channels) e.processes) plan.entities
  pub size : length plan.counts ≡ length plan.entities + length (timers_of plan.entities) + length plan.mappings
  pub counts : Each (λ count. count ≤ MostCount) plan.counts
  pub before : plan.before ≤ MostBefore
  pub rising : IsRising (λ e. e.key) plan.events
  pub pending : Each (IsPending carried plan) plan.events

-- a plan: it is wired, and open
pub record Fits {B S P : Type 0} (valid : Validity S) (carried : P → Type 0) (plan : Plan B S P) : Type 0 where
  pub wired : IsWired plan
  pub opened : IsOpen valid carried plan

-- the entry of an event that is executed at this entity: its key, its entity, and the lines that its actions told
abbrev pub entry_by : {B S P : Type 0} → Reaction S P → Event P → Option (Entity B S P) → Entry
entry_by r e None = record { key = e.key; entity = e.entity; lines = [] }
entry_by r e (Some entity) = record { key = e.key; entity = e.entity; lines = (delivered_to r e entity).lines }

abbrev pub entry_at : {B S P : Type 0} → Reaction S P → List (Entity B S P) → Event P → Entry
entry_at r entities e = entry_by r e (slice_get entities e.entity)

-- the entries of the first n events from a world on, or of all where there are no more
abbrev pub entries_from : {B S P : Type 0} → Reaction S P → List Mapping → ℕ → (Key → Bool) → World (States B S P) (Event P) → ℕ → List Entry
entries_from r mappings until kept w zero = []
entries_from r mappings until kept w (suc n) =
    entries_from r mappings until kept w n
    ++ option_list (option_map (entry_at r (after (machine_of r mappings) until kept w n).state.entities) (event (machine_of r mappings) until kept w n))

-- the entries of the first n events of a plan's run
abbrev pub run_entries : {B S P : Type 0} → Reaction S P → Plan B S P → ℕ → (Key → Bool) → ℕ → List Entry
run_entries r plan until kept n = entries_from r plan.mappings until kept (opening plan) n
