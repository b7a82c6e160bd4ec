-- Groups of entities. `own` says which entities belong to the group.
use Rattle.std.specs.Prelude.{ℕ, ◌≡◌, ◌⊎◌, Bool, true, option_to_list, slice_get}
use Rattle.std.specs.List.{flat_map}
use Rattle.event_order.specs.Pending.{Among}
use Rattle.ssf_model.specs.declared.event.Event.{Event}
use Rattle.ssf_model.specs.declared.entity.Entity.{Entity}
use Rattle.ssf_model.specs.declared.plan.Mapping.{Mapping}
use Rattle.ssf_model.specs.declared.plan.Plan.{Plan}
use Rattle.ssf_model.specs.Run.{States, HasAt}

-- the event happens at an entity of the group
abbrev pub is_own : {P : Type 0} → (ℕ → Bool) → Event P → Bool
is_own own e = own e.entity

-- a mapping with this channel leads from the entity
pub record IsMappedFrom (entity channel : ℕ) (m : Mapping) : Type 0 where
  pub source : m.from ≡ entity
  pub channel_is : m.channel ≡ channel

-- the channel is the timer channel of one of the entity's processes
abbrev pub IsTimerOf : {B S P : Type 0} → ℕ → Entity B S P → Type 0
IsTimerOf channel e = Among channel (flat_map (λ p. option_to_list p.timer) e.processes)

-- the entity writes on this channel: on a mapping that leads from it, or on a timer channel of its own
abbrev pub IsWriterOn : {B S P : Type 0} → Plan B S P → ℕ → ℕ → Type 0
IsWriterOn plan entity channel = ((m : Mapping) × Among m plan.mappings × IsMappedFrom entity channel m) ⊎ HasAt plan.entities entity (IsTimerOf channel)

-- two states in which the group's entities are the same, and so are the counts of the channels on which they write
pub record IsSameGroup {B S P : Type 0} (plan : Plan B S P) (own : ℕ → Bool) (x y : States B S P) : Type 0 where
  pub entities : (k : ℕ) → own k ≡ true → slice_get x.entities k ≡ slice_get y.entities k
  pub counts : (k c : ℕ) → own k ≡ true → IsWriterOn plan k c → x.counts c ≡ y.counts c
