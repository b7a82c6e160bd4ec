-- Where a run by the one list stands, and one step of it.
use Rattle.std.specs.Prelude.{◌≡◌, ℕ, ◌<◌, ◌≤◌, List, length, Option, option_map}
use Rattle.event_order.specs.Machine.{World, due, stepped, all_kept}
use Rattle.ssf_model.specs.declared.event.Event.{Event}
use Rattle.ssf_model.specs.declared.event.Entry.{Entry}
use Rattle.ssf_model.specs.declared.entity.Entity.{Entity}
use Rattle.ssf_model.specs.declared.plan.Mapping.{Mapping}
use Rattle.ssf_model.specs.declared.plan.Plan.{Plan}
use Rattle.ssf_model.specs.Reaction.{Reaction, Validity, LatestTime}
use Rattle.ssf_model.specs.Run.{States, counts_of, machine_of, world_after, Fits, entry_at}
use Rattle.run_health.specs.Healthy.{MostEvents}
use Rattle.global_list.specs.Pending.{key_of}

-- what a run by the one list has: the behaviour and the mappings of its plan, how many channels it counts, and its world
pub record Standing (B S P : Type 0) : Type 0 where
  pub behaviour : B
  pub mappings : List Mapping
  pub channels : ℕ
  pub world : World (States B S P) (Event P)

-- the parts of a run by the one list: besides these its entities, the count of each channel, and the pending events
pub record ListView (B S P : Type 0) : Type 0 where
  pub behaviour : B
  pub mappings : List Mapping
  pub entities : List (Entity B S P)
  pub counts : List ℕ
  pub pending : List (Event P)

module _ {B S P : Type 0} where
  -- where the parts stand
  abbrev pub standing : ListView B S P → Standing B S P
  standing v = record {
    behaviour = v.behaviour;
    mappings = v.mappings;
    channels = length v.counts;
    world = record { state = record { entities = v.entities; counts = counts_of v.counts }; pending = v.pending };
  }

  -- after the first n events of the run of a plan up to the time `until`
  abbrev pub standing_after : Reaction S P → Plan B S P → ℕ → ℕ → Standing B S P
  standing_after r plan until n = record { behaviour = plan.behaviour; mappings = plan.mappings; channels = length plan.counts; world = world_after r plan until all_kept n }

  -- after one step more: the event that is due is executed, and where none is, nothing happens
  abbrev pub advanced : Reaction S P → ℕ → Standing B S P → Standing B S P
  advanced r until s = record s { world = stepped (machine_of r s.mappings) until all_kept s.world.state s.world.pending }

  -- the event that is due
  abbrev pub next_event : ℕ → Standing B S P → Option (Event P)
  next_event until s = due key_of until s.world.pending

  -- and its entry
  abbrev pub next_entry : Reaction S P → ℕ → Standing B S P → Option Entry
  next_entry r until s = option_map (entry_at r s.world.state.entities) (next_event until s)

  -- it stands after fewer than 10^12 events of the run of a plan that fits
  pub record CanGoOn (valid : Validity S) (carried : P → Type 0) (r : Reaction S P) (until : ℕ) (s : Standing B S P) : Type 0 where
    pub plan : Plan B S P
    pub fits : Fits valid carried plan
    pub in_time : until ≤ LatestTime
    pub n : ℕ
    pub few : n < MostEvents
    pub is : s ≡ standing_after r plan until n
