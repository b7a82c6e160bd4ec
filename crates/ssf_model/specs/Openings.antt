-- Openings: where in its run a plan begins. The plan with an opening, and the opening that stands after some events of its
-- own run.
use Rattle.std.specs.Prelude.{ℕ, ◌≡◌, ◌+◌, Bool, List, [], ◌∷◌, map, length, None}
use Rattle.std.specs.List.{range_with_len, AllZip}
use Rattle.event_order.specs.declared.key.Key.{Key}
use Rattle.event_order.specs.Pending.{Among}
use Rattle.event_order.specs.Machine.{World}
use Rattle.ssf_model.specs.declared.wait.Wait.{Wait}
use Rattle.ssf_model.specs.declared.event.Event.{Event}
use Rattle.ssf_model.specs.declared.process.Process.{Process}
use Rattle.ssf_model.specs.declared.entity.Entity.{Entity}
use Rattle.ssf_model.specs.declared.opening.Opened.{Opened}
use Rattle.ssf_model.specs.declared.opening.Opening.{Opening}
use Rattle.ssf_model.specs.declared.plan.Plan.{Plan}
use Rattle.ssf_model.specs.Wake.{HasTimer}
use Rattle.ssf_model.specs.Reaction.{Reaction, Validity, Each, channels_named, wait_of}
use Rattle.ssf_model.specs.Entities.{IsValidEntity}
use Rattle.ssf_model.specs.Run.{States, IsProcessOf, IsOpen, run_events, world_after}

-- the processes with these waits and tickets, each with its own timer channel
abbrev pub reopened_processes : List Process → List Wait → List ℕ → List Process
reopened_processes (p ∷ ps) (w ∷ ws) (t ∷ ts) = record { wait = w; ticket = t; timer = p.timer } ∷ reopened_processes ps ws ts
reopened_processes _ _ _ = []

-- the entity with this state and these waits and tickets
abbrev pub reopened_entity : {B S P : Type 0} → Entity B S P → Opened B S P → Entity B S P
reopened_entity e o = record { state = o.state; processes = reopened_processes e.processes o.waits o.tickets; in_channels = e.in_channels; out_channels = e.out_channels }

abbrev pub reopened_entities : {B S P : Type 0} → List (Entity B S P) → List (Opened B S P) → List (Entity B S P)
reopened_entities (e ∷ es) (o ∷ os) = reopened_entity e o ∷ reopened_entities es os
reopened_entities _ _ = []

-- the plan with this opening
abbrev pub reopened : {B S P : Type 0} → Plan B S P → Opening B S P → Plan B S P
reopened plan o = record {
  behaviour = plan.behaviour;
  entities = reopened_entities plan.entities o.entities;
  events = o.pending;
  mappings = plan.mappings;
  counts = o.counts;
  before = o.events;
}

-- a wait and a ticket for each process of the entity
pub record IsAsLong {B S P : Type 0} (e : Entity B S P) (o : Opened B S P) : Type 0 where
  pub waits : length o.waits ≡ length e.processes
  pub tickets : length o.tickets ≡ length e.processes

-- a process of an entity with these in-channels may wait so: on the entity's own, and for a time only if it is timed
pub record MayWait (ins : List ℕ) (p : Process) (wait : Wait) : Type 0 where
  pub named : Each (λ c. Among c ins) (channels_named wait)
  pub untimed : p.timer ≡ None → HasTimer wait → ⊥

-- an entity may open so
pub record MayOpen {B S P : Type 0} (valid : Validity S) (e : Entity B S P) (o : Opened B S P) : Type 0 where
  pub long : IsAsLong e o
  pub entity : IsValidEntity valid (reopened_entity e o)
  pub processes : Each (IsProcessOf e.in_channels) (reopened_entity e o).processes

-- as many entities as the plan has, each with as many waits and tickets as the plan's has processes, and as many counts
pub record HasShape {B S P : Type 0} (plan : Plan B S P) (o : Opening B S P) : Type 0 where
  pub entities : AllZip IsAsLong plan.entities o.entities
  pub counts : length o.counts ≡ length plan.counts

-- the opening is one of the plan: it has the plan's shape, and the plan with it is open
pub record IsOpeningOf {B S P : Type 0} (valid : Validity S) (carried : P → Type 0) (plan : Plan B S P) (o : Opening B S P) : Type 0 where
  pub shape : HasShape plan o
  pub opened : IsOpen valid carried (reopened plan o)

abbrev pub opened_of : {B S P : Type 0} → Entity B S P → Opened B S P
opened_of e = record { state = e.state; waits = map wait_of e.processes; tickets = map (λ p. p.ticket) e.processes }

-- the opening that a world of so many channels is, after so many events
abbrev pub opening_of : {B S P : Type 0} → ℕ → ℕ → World (States B S P) (Event P) → Opening B S P
opening_of channels events w = record { entities = map opened_of w.state.entities; counts = map w.state.counts (range_with_len 0 channels); pending = w.pending; events = events }

-- the opening that stands after the first n events of a plan's run up to the time `until`
abbrev pub opening_after : {B S P : Type 0} → Reaction S P → Plan B S P → ℕ → (Key → Bool) → ℕ → Opening B S P
opening_after r plan until kept n =
    opening_of (length plan.counts) (plan.before + length (run_events r plan until kept n)) (world_after r plan until kept n)
