-- Which event writes which.
use Rattle.std.specs.Prelude.{ℕ, ◌≡◌, ◌+◌, ◌<◌, ◌≤◌, ◌⊎◌, Bool, true, Some, slice_get}
use Rattle.event_order.specs.declared.key.Key.{Key}
use Rattle.event_order.specs.Pending.{Among}
use Rattle.ssf_model.specs.declared.wait.Kind.TheVariants.{Timer, Message}
use Rattle.ssf_model.specs.declared.out.Written.TheVariants.{Channel, Timer as TimerWrite}
use Rattle.ssf_model.specs.declared.event.Event.{Event}
use Rattle.ssf_model.specs.declared.entity.Entity.{Entity}
use Rattle.ssf_model.specs.declared.plan.Mapping.{Mapping}
use Rattle.ssf_model.specs.declared.plan.Plan.{Plan}
use Rattle.ssf_model.specs.Reaction.{Reaction, Each}
use Rattle.ssf_model.specs.Channels.{delivered_to, timer_of}
use Rattle.ssf_model.specs.Run.{States, run_event, world_after}

-- in the state x the event e writes d along a mapping of the plan, which leads from the entity of e to that of d: d
-- arrives after the delays of the mapping and of the write, and brings what was written
pub record IsSentAlong {B S P : Type 0} (r : Reaction S P) (plan : Plan B S P) (x : States B S P) (e d : Event P) : Type 0 where
  pub writer : Entity B S P
  pub at : slice_get x.entities e.entity ≡ Some writer
  pub mapping : Mapping
  pub delay : ℕ
  pub payload : P
  pub among : Among mapping plan.mappings
  pub source : mapping.from ≡ e.entity
  pub written : Among (Channel mapping.out_channel delay payload) (delivered_to r e writer).writes
  pub target : d.entity ≡ mapping.to
  pub channel : d.key.channel ≡ mapping.channel
  pub priority : d.key.priority ≡ mapping.priority
  pub time : d.key.time ≡ e.key.time + (mapping.delay + delay)
  pub kind : d.kind ≡ Message mapping.in_channel payload

-- in the state x a process that e wakes begins a wait which ends with d, at the same entity and after some time
pub record IsWaitBegun {B S P : Type 0} (r : Reaction S P) (x : States B S P) (e d : Event P) : Type 0 where
  pub waiter : Entity B S P
  pub at : slice_get x.entities e.entity ≡ Some waiter
  pub process : ℕ
  pub delay : ℕ
  pub ticket : ℕ
  pub written : Among (TimerWrite process delay ticket) (delivered_to r e waiter).writes
  pub some_time : 0 < delay
  pub target : d.entity ≡ e.entity
  pub channel : timer_of (slice_get (delivered_to r e waiter).processes process) ≡ Some d.key.channel
  pub priority : d.key.priority ≡ 0
  pub time : d.key.time ≡ e.key.time + delay
  pub kind : d.kind ≡ Timer process ticket

-- in the state x the event e writes d along a mapping, or d ends a wait that e began
abbrev pub IsFollowing : {B S P : Type 0} → Reaction S P → Plan B S P → States B S P → Event P → Event P → Type 0
IsFollowing r plan x e d = IsSentAlong r plan x e d ⊎ IsWaitBegun r x e d

-- an event of the run before number n is one that d follows
pub record FollowsEarlier {B S P : Type 0} (r : Reaction S P) (plan : Plan B S P) (until : ℕ) (kept : Key → Bool) (n : ℕ) (d : Event P) : Type 0 where
  pub at : ℕ
  pub before : at < n
  pub by : Event P
  pub is : run_event r plan until kept at ≡ Some by
  pub follows : IsFollowing r plan (world_after r plan until kept at).state by d

-- e is an event of the run that writes d along a mapping, neither of which takes time
pub record IsPassedOn {B S P : Type 0} (r : Reaction S P) (plan : Plan B S P) (until : ℕ) (kept : Key → Bool) (e d : Event P) : Type 0 where
  pub at : ℕ
  pub is : run_event r plan until kept at ≡ Some e
  pub along : IsSentAlong r plan (world_after r plan until kept at).state e d
  pub no_delay : along.mapping.delay ≡ 0
  pub at_once : along.delay ≡ 0

-- the two ends of each mapping without delay are on one timeline
abbrev pub IsAligned : {B S P : Type 0} → Plan B S P → (ℕ → ℕ) → Type 0
IsAligned plan line = Each (λ (m : Mapping). m.delay ≡ 0 → line m.from ≡ line m.to) plan.mappings

-- the cut keeps all rounds up to `most`
abbrev pub KeepsRounds : ℕ → (Key → Bool) → Type 0
KeepsRounds most kept = (k : Key) → k.round ≤ most → kept k ≡ true
