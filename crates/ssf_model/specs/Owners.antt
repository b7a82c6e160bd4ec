-- Who owns the channels of a draft, and where its mappings lead.
use Rattle.std.specs.Prelude.{ℕ, ◌≡◌, ◌<◌, ◌≤◌, ◌^◌, List, map, length, Some, slice_get}
use Rattle.std.specs.List.{range_with_len}
use Rattle.std.specs.List.Sorted.{IsStrictlyIncreasing}
use Rattle.event_order.specs.Pending.{Among}
use Rattle.ssf_model.specs.declared.builder.OutChannel.{OutChannel}
use Rattle.ssf_model.specs.declared.plan.Mapping.{Mapping}
use Rattle.ssf_model.specs.Reaction.{Each, LongestDelay}
use Rattle.ssf_model.specs.Run.{HasAt}
use Rattle.ssf_model.specs.Drafts.{Draft, IsCountedDraft}

-- `lists` gives each entity's own channels, and `owners` the entity of each channel: a channel is in the list of its
-- owner, and in no other, and each list rises
pub record AreOwned {T : Type 0} (lists : T → List ℕ) (owners : List ℕ) (entities : List T) : Type 0 where
  pub listed : (channel owner : ℕ) → slice_get owners channel ≡ Some owner → HasAt entities owner (λ e. Among channel (lists e))
  pub sole : (channel entity : ℕ) (e : T) → slice_get entities entity ≡ Some e → Among channel (lists e) → slice_get owners channel ≡ Some entity
  pub rising : Each (λ e. IsStrictlyIncreasing (lists e)) entities

-- the entities of these out-channels
abbrev pub owners_of : List OutChannel → List ℕ
owners_of outs = map (λ o. o.entity) outs

-- a mapping between channels of these owners: it leads from the owner of its out-channel to that of its in-channel
pub record IsDrawn (ins outs : List ℕ) (m : Mapping) : Type 0 where
  pub from : slice_get outs m.out_channel ≡ Some m.from
  pub to : slice_get ins m.in_channel ≡ Some m.to
  pub delay : m.delay ≤ LongestDelay
  pub priority : m.priority < 2 ^ 8

-- each channel of a draft has one owner, each mapping leads between owners and has its place as its channel, and no
-- entity has more processes than 32 bits can number
pub record HasOwners {B S : Type 0} (d : Draft B S) : Type 0 where
  pub ins : AreOwned (λ e. e.in_channels) d.in_owners d.entities
  pub outs : AreOwned (λ e. e.out_channels) (owners_of d.outs) d.entities
  pub mappings : Each (IsDrawn d.in_owners (owners_of d.outs)) d.mappings
  pub places : map (λ m. m.channel) d.mappings ≡ range_with_len 0 (length d.mappings)
  pub few : Each (λ e. length e.timed ≤ 2 ^ 32) d.entities

-- the same as one word, which only the proofs that need its parts open
unfoldable pub IsOwned : {B S : Type 0} → Draft B S → Type 0
IsOwned d = HasOwners d

-- what holds of every draft that a builder holds
pub record IsDraft {B S : Type 0} (timed : ℕ) (d : Draft B S) : Type 0 where
  pub range : IsCountedDraft timed d
  pub owned : IsOwned d
