-- Shares that are being made. No public clause cites this file.
use Rattle.std.specs.Prelude.{ℕ, ◌≡◌, ◌<◌, ◌≤◌, List, [], map, take, length, slice_set, vec_capacity}
use Rattle.ssf_model.specs.declared.plan.Plan.{Plan}
use Rattle.alignment.specs.Alignment.{timeline_count}
use Rattle.timeline_parts.specs.declared.part.Part.{Part}
use Rattle.plan_shares.specs.declared.drafts.Drafts.{Drafts}
use Rattle.plan_shares.specs.Shares.{events_on, inside_on, crosses_of, into, out_of, end_of, channels_on, counted_in}
use Rattle.plan_shares.specs.Lists.{for_each, list_at}

module _ {B S P : Type 0} where
  -- nothing is there of what has to do with mappings, and of the rest
  pub record HasNoMappings (d : Drafts B S P) : Type 0 where
    pub inside : d.inside ≡ []
    pub ins : d.ins ≡ []
    pub outs : d.outs ≡ []
    pub crosses : d.crosses.items ≡ []
    pub ends : d.ends.items ≡ []

  pub record HasNoRest (d : Drafts B S P) : Type 0 where
    pub entities : d.entities ≡ []
    pub events : d.events ≡ []
    pub counts : d.counts ≡ []
    pub starts : d.starts.items ≡ []
    pub parts : d.parts.items ≡ []

  pub record IsEmpty (d : Drafts B S P) : Type 0 where
    pub mappings : HasNoMappings d
    pub rest : HasNoRest d

  -- the mappings of the plan are there, and the rest of it but for the entities, with room for the parts
  pub record HasMappings (plan : Plan B S P) (lines : List ℕ) (threshold : ℕ) (d : Drafts B S P) : Type 0 where
    pub inside : d.inside ≡ for_each (timeline_count lines) (λ i. inside_on lines i plan.mappings)
    pub ins : d.ins ≡ for_each (timeline_count lines) (λ i. into lines i (crosses_of lines threshold plan.mappings))
    pub outs : d.outs ≡ for_each (timeline_count lines) (λ i. out_of lines i (crosses_of lines threshold plan.mappings))
    pub ends : d.ends.items ≡ map (end_of lines) (crosses_of lines threshold plan.mappings)

  pub record HasRest (plan : Plan B S P) (lines : List ℕ) (d : Drafts B S P) : Type 0 where
    pub entities : d.entities ≡ for_each (timeline_count lines) (λ _. [])
    pub events : d.events ≡ for_each (timeline_count lines) (λ i. events_on lines i plan.events)
    pub counts : d.counts ≡ for_each (timeline_count lines) (λ i. map (counted_in plan.counts) (channels_on plan lines i))
    pub starts : d.starts.items ≡ take (length plan.entities) plan.counts
    pub parts : d.parts.items ≡ []
    pub room : timeline_count lines ≤ vec_capacity d.parts

  pub record IsDrafted (plan : Plan B S P) (lines : List ℕ) (threshold : ℕ) (d : Drafts B S P) : Type 0 where
    pub mappings : HasMappings plan lines threshold d
    pub rest : HasRest plan lines d

  -- only the rest of the second may differ from that of the first
  pub record KeepsMappings (before after : Drafts B S P) : Type 0 where
    pub inside : after.inside ≡ before.inside
    pub ins : after.ins ≡ before.ins
    pub outs : after.outs ≡ before.outs
    pub ends : after.ends ≡ before.ends

  -- there is a list of each kind for each of so many timelines, no part, and room for as many
  pub record IsWhole (count : ℕ) (d : Drafts B S P) : Type 0 where
    pub entities : length d.entities ≡ count
    pub events : length d.events ≡ count
    pub inside : length d.inside ≡ count
    pub ins : length d.ins ≡ count
    pub outs : length d.outs ≡ count
    pub counts : length d.counts ≡ count
    pub parts : d.parts.items ≡ []
    pub room : count ≤ vec_capacity d.parts

  -- timeline i is one of these
  pub record HasLine (i : ℕ) (d : Drafts B S P) : Type 0 where
    pub entities : i < length d.entities
    pub events : i < length d.events
    pub inside : i < length d.inside
    pub ins : i < length d.ins
    pub outs : i < length d.outs
    pub counts : i < length d.counts

  -- its part, and what is left when that was taken
  abbrev pub part_at : Drafts B S P → ℕ → Part B S P
  part_at d i = record {
    entities = list_at d.entities i;
    events = list_at d.events i;
    inside = list_at d.inside i;
    ins = list_at d.ins i;
    outs = list_at d.outs i;
    counts = list_at d.counts i;
  }

  pub record IsTakenFrom (i : ℕ) (before after : Drafts B S P) : Type 0 where
    pub entities : after.entities ≡ slice_set before.entities i []
    pub events : after.events ≡ slice_set before.events i []
    pub inside : after.inside ≡ slice_set before.inside i []
    pub ins : after.ins ≡ slice_set before.ins i []
    pub outs : after.outs ≡ slice_set before.outs i []
    pub counts : after.counts ≡ slice_set before.counts i []
    pub ends : after.ends ≡ before.ends
    pub starts : after.starts ≡ before.starts
    pub parts : after.parts ≡ before.parts
