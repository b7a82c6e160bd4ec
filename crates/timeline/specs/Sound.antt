-- What it means that a timeline is sound for the run of a plan: it has timeline i's share of the plan, and all that it holds
-- is what the run has there after so many events.
use Rattle.std.specs.Prelude.{ℕ, ◌≡◌, ◌+◌, ◌<◌, ◌≤◌, Bool, true, false, nat_eq, not, ◌&&◌, List, ◌∷◌, ◌++◌, map, length, Some, None, slice_get, slice_index}
use Rattle.std.specs.List.{filter}
use Rattle.event_order.specs.Pending.{Among}
use Rattle.ssf_model.specs.declared.event.Event.{Event}
use Rattle.ssf_model.specs.declared.event.Entry.{Entry}
use Rattle.ssf_model.specs.declared.event.Parcel.{Parcel}
use Rattle.ssf_model.specs.declared.plan.Mapping.{Mapping}
use Rattle.ssf_model.specs.declared.plan.Plan.{Plan}
use Rattle.ssf_model.specs.Reaction.{Reaction, Validity}
use Rattle.ssf_model.specs.Run.{States, counts_of}
use Rattle.ssf_model.specs.Runs.{OfEachFittingRun}
use Rattle.ssf_model.specs.Scene.{Scene, Net, world_at}
use Rattle.ssf_model.specs.Truth.{line_entries, IsTrueParcel}
use Rattle.run_health.specs.Groups.{IsWriterOn}
use Rattle.run_health.specs.Joined.{IsAligned, KeepsRounds}
use Rattle.run_health.specs.Healthy.{MostEvents}
use Rattle.sync_rules.specs.Bounds.{IsInto, IsOutOf}
use Rattle.sync_rules.specs.Shared.{IsShared}
use Rattle.sync_rules.specs.Sound.{IsSoundLine, IsCounted}
use Rattle.timeline_parts.specs.declared.ends.InEnd.{InEnd}
use Rattle.timeline_parts.specs.Tables.{numbers_of, item_at}
use Rattle.timeline_parts.specs.declared.part.Cross.{Cross}
use Rattle.timeline_parts.specs.declared.part.Part.{Part}
use Rattle.timeline.specs.View.{TimelineOf, mapping_of}
use Rattle.timeline.specs.Holding.{bound_in, taken_of, IsInOrder}
use Rattle.timeline.specs.Executing.{refusal, IsRun}
use Rattle.timeline.specs.Moving.{IsTaken, IsHandedOut}
use Rattle.timeline_parts.specs.Parts.{IsPart}
use Rattle.timeline.specs.Opening.{IsFirst}
use Rattle.timeline.specs.Lines.{line_of, IsPlacedIn}

-- ---- a timeline's share of a plan. `line` numbers the entities by timelines

-- a mapping inside timeline i, and one that goes from it to another
abbrev pub is_inside : (ℕ → ℕ) → ℕ → Mapping → Bool
is_inside line i m = nat_eq (line m.from) i && nat_eq (line m.to) i

abbrev pub is_outgoing : (ℕ → ℕ) → ℕ → Mapping → Bool
is_outgoing line i m = nat_eq (line m.from) i && not (nat_eq (line m.to) i)

-- the counts of channels stand in this list at the places of the ends
abbrev pub CountsAt : List (ℕ × InEnd) → List ℕ → (ℕ → ℕ) → Type 0
CountsAt ends counts count = (c : ℕ) (e : InEnd) → item_at c ends ≡ Some e → slice_index counts e.place ≡ count c

module _ {B S P : Type 0} where
  -- the timeline has the mappings of the plan that lead from its entities
  pub record HasMappings (plan : Plan B S P) (line : ℕ → ℕ) (i : ℕ) (t : TimelineOf B S P) : Type 0 where
    pub inside : t.inside ≡ filter (is_inside line i) plan.mappings
    pub outs : map mapping_of t.outs ≡ filter (is_outgoing line i) plan.mappings

  -- it has the entities of timeline i as they are in the state x, and no others
  pub record HasEntities (line : ℕ → ℕ) (i : ℕ) (x : States B S P) (t : TimelineOf B S P) : Type 0 where
    pub each : (k : ℕ) → line k ≡ i → item_at k t.entities ≡ slice_get x.entities k
    pub own : (k : ℕ) → Among k (numbers_of t.entities) → line k ≡ i

  -- it has the counts of the channels on which these write, as they are in the state x
  abbrev pub HasCounts : Plan B S P → (ℕ → ℕ) → ℕ → States B S P → TimelineOf B S P → Type 0
  HasCounts plan line i x t = (k c : ℕ) → line k ≡ i → IsWriterOn plan k c → item_at c t.counts ≡ Some (x.counts c)

  -- the part is timeline i's share of the plan: its entities, their mappings, the counts of the channels on which they write,
  -- the pending events at them, and the channels of the net to it and from it
  pub record IsShareOf (plan : Plan B S P) (line : ℕ → ℕ) (net : Net) (i : ℕ) (part : Part B S P) : Type 0 where
    pub entities : (k : ℕ) → line k ≡ i → item_at k part.entities ≡ slice_get plan.entities k
    pub own : (k : ℕ) → Among k (numbers_of part.entities) → line k ≡ i
    pub counts : (k c : ℕ) → line k ≡ i → IsWriterOn plan k c → item_at c part.counts ≡ Some (counts_of plan.counts c)
    pub events : (e : Event P) → Among e part.events → Among e plan.events × (line e.entity ≡ i)
    pub all_events : (e : Event P) → Among e plan.events → line e.entity ≡ i → Among e part.events
    pub inside : part.inside ≡ filter (is_inside line i) plan.mappings
    pub outside : map mapping_of part.outs ≡ filter (is_outgoing line i) plan.mappings
    pub ins : (x : Cross) → Among x part.ins → IsInto net i x.mapping.channel × (x.appointed ≡ net.appointed x.mapping.channel)
    pub all_ins : (c : ℕ) → IsInto net i c → (x : Cross) × Among x part.ins × (x.mapping.channel ≡ c)
    pub outs : (x : Cross) → Among x part.outs → IsOutOf net i x.mapping.channel × (x.appointed ≡ net.appointed x.mapping.channel) × (x.mapping.delay ≡ net.delay x.mapping.channel)
    pub all_outs : (c : ℕ) → IsOutOf net i c → (x : Cross) × Among x part.outs × (x.mapping.channel ≡ c)

  -- ---- sound timelines

  -- its first pending event is in time and below its bound
  pub record HasNext (t : TimelineOf B S P) : Type 0 where
    pub event : Event P
    pub rest : List (Event P)
    pub is : t.pending ≡ event ∷ rest
    pub in_time : event.key.time ≤ t.until
    pub below : event.key.time < bound_in t

  -- the timeline stands at a moment of the run, after so many events: it has executed just its own among them, and what it
  -- holds is what the run has there. Its history is the entries of these events without the first, which were given up.
  -- Where it is spent nothing is said of its entities, and it stands at an event that it could not execute
  pub record IsSoundTimeline (plan : Plan B S P) (line : ℕ → ℕ) (s : Scene (States B S P) (Event P)) (i moment : ℕ) (t : TimelineOf B S P) : Type 0 where
    pub order : IsInOrder t
    pub until : t.until ≡ s.until
    pub sound : IsSoundLine s i (line_of moment t)
    pub counted : IsCounted s t.budget i (line_of moment t)
    pub placed : IsPlacedIn s.net i t
    pub mappings : HasMappings plan line i t
    pub entities : t.spent ≡ false → HasEntities line i (world_at s moment).state t
    pub counts : HasCounts plan line i (world_at s moment).state t
    pub given_up : List Entry
    pub history : given_up ++ t.history ≡ line_entries s i moment
    pub stopped : t.spent ≡ true → HasNext t

  -- the run is shared out to timelines, of which the two ends of each mapping without delay are on one, and the cut keeps
  -- all that timelines write within so many events
  pub record IsRunOnLines (plan : Plan B S P) (line : ℕ → ℕ) (budget : ℕ) (s : Scene (States B S P) (Event P)) : Type 0 where
    pub shared : IsShared s
    pub aligned : IsAligned plan line
    pub keeps : KeepsRounds budget s.kept

  -- the law holds of each sound timeline of the run of each plan that fits
  abbrev pub OfEachSoundTimeline : Validity S → (P → Type 0) → Reaction S P
      → (Plan B S P → (ℕ → ℕ) → Scene (States B S P) (Event P) → ℕ → ℕ → TimelineOf B S P → Type 0) → Type 0
  OfEachSoundTimeline valid carried r law = OfEachFittingRun valid carried r (λ plan line s. (i moment : ℕ) (t : TimelineOf B S P)
      → IsRunOnLines plan line t.budget s → IsSoundTimeline plan line s i moment t → law plan line s i moment t)

  -- ---- calls on a sound timeline

  -- a true parcel of a channel that comes from another timeline, which begins where the timeline has taken up to, was taken in
  pub record IsTakenTruly (s : Scene (States B S P) (Event P)) (t : TimelineOf B S P) (channel : ℕ) (parcel : Parcel P) (after : TimelineOf B S P) : Type 0 where
    pub known : Among channel (numbers_of t.in_ends)
    pub is : IsTaken t channel parcel after
    pub first : parcel.first ≡ taken_of t.in_ends channel
    pub truth : IsTrueParcel s channel parcel.first parcel.events (parcel.first + length parcel.events) parcel.promise

  -- the outbox of a channel that goes to another timeline was handed out
  pub record IsHandedOver (t : TimelineOf B S P) (channel : ℕ) (parcel : Parcel P) (after : TimelineOf B S P) : Type 0 where
    pub known : Among channel (numbers_of t.out_ends)
    pub is : IsHandedOut t channel parcel after

  -- the next event was not refused, and was executed
  pub record IsExecuted (r : Reaction S P) (t : TimelineOf B S P) (after : TimelineOf B S P) : Type 0 where
    pub free : refusal t ≡ None
    pub run : IsRun r t after

  -- the part is timeline i's share of the plan, and the timeline begins with it
  pub record IsBegun (plan : Plan B S P) (line : ℕ → ℕ) (s : Scene (States B S P) (Event P)) (i budget : ℕ) (part : Part B S P) (t : TimelineOf B S P) : Type 0 where
    pub budget_low : budget ≤ MostEvents
    pub share : IsShareOf plan line s.net i part
    pub ordered : IsPart part
    pub first : IsFirst part s.until budget t
