-- The execution of one event by the code, and what it needs.
use Rattle.std.specs.Prelude.{◌≡◌, ℕ, ◌-◌, ◌^◌, ◌<◌, ◌≤◌, List, length, Some, slice_get}
use Rattle.std.specs.List.{All}
use Rattle.event_order.specs.Pending.{put_all}
use Rattle.event_order.specs.Machine.{World}
use Rattle.ssf_model.specs.declared.event.Event.{Event}
use Rattle.ssf_model.specs.declared.event.Entry.{Entry}
use Rattle.ssf_model.specs.declared.process.Process.{Process}
use Rattle.ssf_model.specs.declared.entity.Entity.{Entity}
use Rattle.ssf_model.specs.declared.plan.Mapping.{Mapping}
use Rattle.global_list.specs.declared.one_list.OneList.{OneList}
use Rattle.ssf_model.specs.Reaction.{Reaction, Validity, LatestTime}
use Rattle.ssf_model.specs.Deliver.{IsTimely}
use Rattle.ssf_model.specs.Entities.{IsValidEntity}
use Rattle.ssf_model.specs.Channels.{sent_by}
use Rattle.ssf_model.specs.Run.{States, counts_of, acts_at, writes_at}
use Rattle.global_list.specs.Pending.{key_of}
use Rattle.global_list.specs.Posting.{MayPost}
use Rattle.global_list.specs.Standing.{Standing, ListView, standing}
use Rattle.ssf_model.specs.Run.{entry_at}

abbrev pub states_of : {B S P : Type 0} → List (Entity B S P) → List ℕ → States B S P
states_of entities counts = record { entities = entities; counts = counts_of counts }

abbrev pub world_of : {B S P : Type 0} → List (Entity B S P) → List ℕ → List (Event P) → World (States B S P) (Event P)
world_of entities counts pending = record { state = states_of entities counts; pending = pending }

-- the world that the one list has
abbrev pub world_in : {B S P : Type 0} → OneList B S P → World (States B S P) (Event P)
world_in list = world_of list.entities.items list.agenda.counts.items list.agenda.pending

-- the parts of the one list, and where it stands
abbrev pub view_of : {B S P : Type 0} → OneList B S P → ListView B S P
view_of list = record { behaviour = list.behaviour; mappings = list.fan_out; entities = list.entities.items; counts = list.agenda.counts.items; pending = list.agenda.pending }

abbrev pub standing_of : {B S P : Type 0} → OneList B S P → Standing B S P
standing_of list = standing (view_of list)

-- what the execution of an event did: the world before it and after, and the entry that it told
pub record Execution (B S P : Type 0) : Type 0 where
  pub before : World (States B S P) (Event P)
  pub after : World (States B S P) (Event P)
  pub entry : Entry

-- the event can be executed at its entity
pub record MayExecute {B S P : Type 0} (valid : Validity S) (r : Reaction S P) (mappings : List Mapping) (e : Event P) (entities : List (Entity B S P)) (counts : List ℕ) (pending : List (Event P)) : Type 0 where
  pub entity : Entity B S P
  pub at : slice_get entities e.entity ≡ Some entity
  pub within : e.entity < length entities
  pub is_valid : IsValidEntity valid entity
  pub timely : IsTimely e.kind entity.processes
  pub tickets : All (λ (p : Process). p.ticket < 2 ^ 64 - 1) entity.processes
  pub time : e.key.time ≤ LatestTime
  pub may : MayPost e.key (sent_by r mappings e entity) counts pending

-- the event was executed so, and is no more pending
pub record IsExecuted {B S P : Type 0} (r : Reaction S P) (mappings : List Mapping) (e : Event P) (x : Execution B S P) : Type 0 where
  pub state : x.after.state ≡ acts_at r mappings x.before.state e (slice_get x.before.state.entities e.entity)
  pub pending : x.after.pending ≡ put_all key_of (writes_at r mappings x.before.state e (slice_get x.before.state.entities e.entity)) x.before.pending
  pub entry : x.entry ≡ entry_at r x.before.state.entities e
