-- Plans that are being made: what each call adds, when it is refused, and the plan that comes of it.
use Rattle.std.specs.Prelude.{ℕ, ◌≡◌, ◌+◌, ◌≤◌, Bool, cond, nat_le, nat_lt, List, [], ◌∷◌, ◌++◌, map, length, replicate, sum_by, count_by, Option, Some, None, slice_index_or, slice_index, slice_get, slice_set}
use Rattle.std.specs.List.{range_with_len}
use Rattle.std.specs.Bool.{then_some}
use Rattle.ssf_model.specs.declared.builder.BuildFault.{BuildFault}
use Rattle.ssf_model.specs.declared.builder.BuildFault.TheVariants.{UnknownChannel, DelayTooLong, TooManyChannels}
use Rattle.ssf_model.specs.declared.builder.DraftEntity.{DraftEntity}
use Rattle.ssf_model.specs.declared.builder.OutChannel.{OutChannel}
use Rattle.ssf_model.specs.declared.plan.Mapping.{Mapping}
use Rattle.ssf_model.specs.declared.plan.Plan.{Plan}
use Rattle.ssf_model.specs.declared.entity.Entity.{Entity}
use Rattle.ssf_model.specs.declared.event.Event.{Event}
use Rattle.ssf_model.specs.declared.process.Process.{Process}
use Rattle.ssf_model.specs.declared.wait.Wait.TheVariants.{Forever}
use Rattle.ssf_model.specs.declared.wait.Kind.TheVariants.{Begin}
use Rattle.ssf_model.specs.Reaction.{LongestDelay, Validity}

-- the most start, timer and mapping channels together, and the most in-channels and the most out-channels
abbrev pub MostChannels : ℕ
MostChannels = 262144

abbrev pub MostEnds : ℕ
MostEnds = 1048576

-- what was made so far: the entities, the entity of each in-channel, the out-channels, and the mappings, of which each
-- has its place as its channel until the plan is finished
pub record Draft (B S : Type 0) : Type 0 where
  pub behaviour : B
  pub entities : List (DraftEntity S)
  pub in_owners : List ℕ
  pub outs : List OutChannel
  pub mappings : List Mapping

abbrev pub empty_draft : {B S : Type 0} → B → Draft B S
empty_draft behaviour = record { behaviour = behaviour; entities = []; in_owners = []; outs = []; mappings = [] }

-- how many of these processes are timed
abbrev pub timers : List Bool → ℕ
timers timed = count_by (λ t. t) timed

abbrev pub all_timers : {S : Type 0} → List (DraftEntity S) → ℕ
all_timers entities = sum_by (λ e. timers e.timed) entities

-- the start, timer and mapping channels so far
abbrev pub channels_of : {B S : Type 0} → Draft B S → ℕ
channels_of d = length d.entities + all_timers d.entities + length d.mappings

-- an out-channel of no number has no delay
abbrev pub out_at : {B S : Type 0} → Draft B S → ℕ → OutChannel
out_at d out = slice_index_or d.outs out (record { entity = 0; delay = 0 })

-- a refusal where the test holds, and else what the others say
abbrev pub refuse_if : Bool → BuildFault → Option BuildFault → Option BuildFault
refuse_if test fault others = cond test (Some fault) others

abbrev pub entity_refusal : {B S : Type 0} → Draft B S → List Bool → Option BuildFault
entity_refusal d timed = refuse_if (nat_lt MostChannels (channels_of d + (1 + timers timed))) TooManyChannels None

abbrev pub in_channel_refusal : {B S : Type 0} → Draft B S → Option BuildFault
in_channel_refusal d = refuse_if (nat_le MostEnds (length d.in_owners)) TooManyChannels None

abbrev pub out_channel_refusal : {B S : Type 0} → Draft B S → ℕ → Option BuildFault
out_channel_refusal d delay = refuse_if (nat_lt LongestDelay delay) DelayTooLong (refuse_if (nat_le MostEnds (length d.outs)) TooManyChannels None)

abbrev pub mapping_refusal : {B S : Type 0} → Draft B S → ℕ → ℕ → ℕ → Option BuildFault
mapping_refusal d from to delay =
    refuse_if (nat_le (length d.outs) from) (UnknownChannel from)
    (refuse_if (nat_le (length d.in_owners) to) (UnknownChannel to)
    (refuse_if (nat_lt LongestDelay ((out_at d from).delay + delay)) DelayTooLong
    (refuse_if (nat_le MostChannels (channels_of d)) TooManyChannels None)))

abbrev pub with_entity : {B S : Type 0} → Draft B S → S → List Bool → Draft B S
with_entity d state timed = record d { entities = d.entities ++ record { state = state; timed = timed; in_channels = []; out_channels = [] } ∷ [] }

abbrev pub add_in : {S : Type 0} → ℕ → DraftEntity S → DraftEntity S
add_in channel e = record { state = e.state; timed = e.timed; in_channels = e.in_channels ++ channel ∷ []; out_channels = e.out_channels }

abbrev pub add_out : {S : Type 0} → ℕ → DraftEntity S → DraftEntity S
add_out channel e = record { state = e.state; timed = e.timed; in_channels = e.in_channels; out_channels = e.out_channels ++ channel ∷ [] }

-- the list with the function applied to the element at one place, if there is one
abbrev pub changed_to : {T : Type 0} → (T → T) → List T → ℕ → Option T → List T
changed_to f xs place None = xs
changed_to f xs place (Some x) = slice_set xs place (f x)

abbrev pub changed_at : {T : Type 0} → (T → T) → List T → ℕ → List T
changed_at f xs place = changed_to f xs place (slice_get xs place)

-- the next in-channel is this entity's
abbrev pub with_in_channel : {B S : Type 0} → Draft B S → ℕ → Draft B S
with_in_channel d entity = record d { entities = changed_at (add_in (length d.in_owners)) d.entities entity; in_owners = d.in_owners ++ entity ∷ [] }

-- the next out-channel is this entity's, with this delay
abbrev pub with_out_channel : {B S : Type 0} → Draft B S → ℕ → ℕ → Draft B S
with_out_channel d entity delay = record d { entities = changed_at (add_out (length d.outs)) d.entities entity; outs = d.outs ++ record { entity = entity; delay = delay } ∷ [] }

-- the next mapping, whose delay is that of its out-channel and its own together
abbrev pub with_mapping : {B S : Type 0} → Draft B S → ℕ → ℕ → ℕ → ℕ → Draft B S
with_mapping d from to delay priority = record d {
  mappings = d.mappings ++ record {
    channel = length d.mappings;
    out_channel = from;
    in_channel = to;
    from = (out_at d from).entity;
    to = slice_index d.in_owners to;
    delay = (out_at d from).delay + delay;
    priority = priority;
  } ∷ [];
}

-- a process at first: it waits forever, and where it is timed, this is its timer channel
abbrev pub first_process : ℕ → Bool → Process
first_process timer timed = record { wait = Forever; ticket = 0; timer = then_some timed timer }

-- the processes of an entity at first, whose timer channels are those from `timer` on
abbrev pub first_processes : ℕ → List Bool → List Process
first_processes timer [] = []
first_processes timer (t ∷ ts) = first_process timer t ∷ first_processes (timer + cond t 1 0) ts

abbrev pub first_entity : {B S P : Type 0} → ℕ → DraftEntity S → Entity B S P
first_entity timer d = record { state = d.state; processes = first_processes timer d.timed; in_channels = d.in_channels; out_channels = d.out_channels }

-- the entities at first, whose timer channels are those from `timer` on
abbrev pub first_entities : {B S P : Type 0} → ℕ → List (DraftEntity S) → List (Entity B S P)
first_entities timer [] = []
first_entities timer (d ∷ ds) = first_entity timer d ∷ first_entities (timer + timers d.timed) ds

-- the start event of an entity
abbrev pub start : {P : Type 0} → ℕ → Event P
start entity = record { key = record { time = 0; round = 0; priority = 0; channel = entity; number = 0 }; entity = entity; kind = Begin }

abbrev pub with_channel : ℕ → Mapping → Mapping
with_channel channel m = record { channel = channel; out_channel = m.out_channel; in_channel = m.in_channel; from = m.from; to = m.to; delay = m.delay; priority = m.priority }

-- the mappings with the channels from this one on
abbrev pub with_channels : ℕ → List Mapping → List Mapping
with_channels channel [] = []
with_channels channel (m ∷ ms) = with_channel channel m ∷ with_channels (channel + 1) ms

-- the plan of a draft: start channels by entity, then timer channels by entity and process, then mapping channels in
-- the order in which the mappings were made; the start events of all entities are pending
unfoldable pub planned : {B S P : Type 0} → Draft B S → Plan B S P
planned d =
    let starts = length d.entities in
    let first = starts + all_timers d.entities in
    record {
      behaviour = d.behaviour;
      entities = first_entities starts d.entities;
      events = map start (range_with_len 0 starts);
      mappings = with_channels first d.mappings;
      counts = replicate starts 1 ++ replicate (all_timers d.entities + length d.mappings) 0;
      before = 0;
    }

-- an entity in a valid state, with all its processes waiting forever
abbrev pub IsValidDraft : {S : Type 0} → Validity S → DraftEntity S → Type 0
IsValidDraft valid d = valid d.state d.in_channels d.out_channels d.timed (replicate (length d.timed) Forever)

-- what holds of every draft, of which the code counts the timed processes
pub record IsCountedDraft {B S : Type 0} (timed : ℕ) (d : Draft B S) : Type 0 where
  pub timed_is : timed ≡ all_timers d.entities
  pub channels : channels_of d ≤ MostChannels
  pub ins : length d.in_owners ≤ MostEnds
  pub outs : length d.outs ≤ MostEnds
