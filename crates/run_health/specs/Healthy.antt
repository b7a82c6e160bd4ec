-- What holds all along the run of a plan that fits, so that each of its events can be executed and no number leaves its
-- range. `spent` is a number of events for each entity: those that its timeline has executed.
use Rattle.std.specs.Prelude.{◌≡◌, ℕ, ◌+◌, ◌*◌, ◌<◌, ◌≤◌, Bool, nat_eq, List, map, length, Option, Some, None, slice_get}
use Rattle.event_order.specs.Pending.{Among}
use Rattle.event_order.specs.declared.key.Key.{Key}
use Rattle.event_order.specs.Machine.{World}
use Rattle.event_order.specs.Run.{share}
use Rattle.ssf_model.specs.declared.event.Event.{Event}
use Rattle.ssf_model.specs.declared.process.Process.{Process}
use Rattle.ssf_model.specs.declared.entity.Entity.{Entity}
use Rattle.ssf_model.specs.declared.plan.Mapping.{Mapping}
use Rattle.ssf_model.specs.declared.plan.Plan.{Plan}
use Rattle.ssf_model.specs.Wake.{HasTimer}
use Rattle.ssf_model.specs.Reaction.{Reaction, Validity, Each, channels_named}
use Rattle.ssf_model.specs.Deliver.{MostWrites}
use Rattle.ssf_model.specs.Drafts.{MostChannels}
use Rattle.ssf_model.specs.Entities.{IsValidEntity}
use Rattle.ssf_model.specs.Run.{States, IsOnChannel, MostCount, MostTicket, LatestPending, machine_of, opening, run_event, world_after}
use Rattle.ssf_model.specs.Scene.{Scene}
use Rattle.ssf_model.specs.Runs.{OfEachFittingRun}
use Rattle.run_health.specs.Groups.{IsWriterOn}
use Rattle.run_health.specs.Joined.{IsAligned}

-- no event writes more often on one channel: so much is room for the writes of its actions and the ends of its waits
abbrev pub MostSent : ℕ
MostSent = MostWrites + MostChannels

-- the most events of a timeline
abbrev pub MostEvents : ℕ
MostEvents = 1000000000000

-- what no event changes of an entity: its channels, and the timer channels of its processes
pub record Shape : Type 0 where
  pub ins : List ℕ
  pub outs : List ℕ
  pub timers : List (Option ℕ)

abbrev pub timer_at : Process → Option ℕ
timer_at p = p.timer

unfoldable pub shape : {B S P : Type 0} → Entity B S P → Shape
shape e = record { ins = e.in_channels; outs = e.out_channels; timers = map timer_at e.processes }

-- how many of the first n events of a plan's run are on the timeline of entity k
abbrev pub spent_by : {B S P : Type 0} → Reaction S P → Plan B S P → ℕ → (Key → Bool) → (ℕ → ℕ) → ℕ → ℕ → ℕ
spent_by r plan until kept line n k = length (share (machine_of r plan.mappings) until kept (opening plan) (λ e. nat_eq (line e.entity) (line k)) n)

-- event number n of the run is e, at this entity
pub record HappensAt {B S P : Type 0} (r : Reaction S P) (plan : Plan B S P) (until : ℕ) (kept : Key → Bool) (n : ℕ) (e : Event P) (entity : Entity B S P) : Type 0 where
  pub is : run_event r plan until kept n ≡ Some e
  pub at : slice_get (world_after r plan until kept n).state.entities e.entity ≡ Some entity

-- the law holds of each event of the run of each plan that fits, and of the entity at which it happens
abbrev pub OfEachHappening : {B S P : Type 0} → Validity S → (P → Type 0) → Reaction S P
    → (Plan B S P → (ℕ → ℕ) → Scene (States B S P) (Event P) → ℕ → Event P → Entity B S P → Type 0) → Type 0
OfEachHappening {B} {S} {P} valid carried r law = OfEachFittingRun valid carried r (λ plan line s.
    (n : ℕ) (e : Event P) (entity : Entity B S P) → HappensAt r plan s.until s.kept n e entity → law plan line s n e entity)

-- the two ends of each mapping without delay are on one timeline, and that of the event had fewer than 10^12 events before
-- number n
pub record IsEarly {B S P : Type 0} (r : Reaction S P) (plan : Plan B S P) (line : ℕ → ℕ) (s : Scene (States B S P) (Event P)) (n : ℕ) (e : Event P) : Type 0 where
  pub aligned : IsAligned plan line
  pub few : spent_by r plan s.until s.kept line n e.entity < MostEvents

-- a process of an entity with these in-channels: its wait names the entity's own, and ends by itself only if the process
-- is timed
pub record IsWaiting (ins : List ℕ) (p : Process) : Type 0 where
  pub waits : Each (λ c. Among c ins) (channels_named p.wait)
  pub untimed : p.timer ≡ None → HasTimer p.wait → ⊥

-- an entity whose timeline has executed so many events: it is valid, and each of these raised a ticket by at most one
pub record IsHealthyEntity {B S P : Type 0} (valid : Validity S) (spent : ℕ) (e : Entity B S P) : Type 0 where
  pub is_valid : IsValidEntity valid e
  pub waiting : Each (IsWaiting e.in_channels) e.processes
  pub tickets : Each (λ p. p.ticket ≤ MostTicket + spent) e.processes

-- a pending event: it stands on the channel that brings it, with a number that the channel has counted, and no more
-- rounds than its entity's timeline has executed events
pub record IsHealthyEvent {B S P : Type 0} (carried : P → Type 0) (mappings : List Mapping) (x : States B S P) (spent : ℕ → ℕ) (d : Event P) : Type 0 where
  pub entity : d.entity < length x.entities
  pub on_channel : IsOnChannel carried x.entities mappings d.entity d.key d.kind
  pub number : d.key.number < x.counts d.key.channel
  pub round : d.key.round ≤ spent d.entity
  pub time : d.key.time ≤ LatestPending

-- a world of the plan's run: a channel's count is at most that of an opening and `MostSent` for each event that the
-- timeline of the entity which writes on it has executed
pub record IsHealthy {B S P : Type 0} (valid : Validity S) (carried : P → Type 0) (plan : Plan B S P) (spent : ℕ → ℕ) (w : World (States B S P) (Event P)) : Type 0 where
  pub shapes : map shape w.state.entities ≡ map shape plan.entities
  pub entities : (k : ℕ) (e : Entity B S P) → slice_get w.state.entities k ≡ Some e → IsHealthyEntity valid (spent k) e
  pub pending : (d : Event P) → Among d w.pending → IsHealthyEvent carried plan.mappings w.state spent d
  pub counts : (k c : ℕ) → IsWriterOn plan k c → w.state.counts c ≤ MostCount + spent k * MostSent
