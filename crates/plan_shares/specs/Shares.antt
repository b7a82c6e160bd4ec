-- What each timeline gets of a plan. `lines` has the timeline of each entity, and `i` is a timeline.
use Rattle.std.specs.Prelude.{ℕ, Bool, ◌&&◌, nat_eq, nat_lt, List, ◌++◌, map, take, length, option_to_list}
use Rattle.std.specs.List.{filter, flat_map, enumerate_from, range_with_len}
use Rattle.ssf_model.specs.declared.event.Event.{Event}
use Rattle.ssf_model.specs.declared.process.Process.{Process}
use Rattle.ssf_model.specs.declared.entity.Entity.{Entity}
use Rattle.ssf_model.specs.declared.plan.Mapping.{Mapping}
use Rattle.ssf_model.specs.declared.plan.Plan.{Plan}
use Rattle.ssf_model.specs.Run.{counts_of}
use Rattle.alignment.specs.Alignment.{line_of, timeline_count}
use Rattle.alignment.specs.Classes.{is_cross}
use Rattle.timeline_parts.specs.declared.part.Cross.{Cross}
use Rattle.timeline_parts.specs.declared.part.Part.{Part}
use Rattle.plan_shares.specs.declared.crosses.CrossEnd.{CrossEnd}
use Rattle.plan_shares.specs.declared.shares.Shares.{Shares}

-- the entity is on timeline i
abbrev pub is_on : List ℕ → ℕ → ℕ → Bool
is_on lines i entity = nat_eq (line_of lines entity) i

-- the entities of timeline i, with their numbers, and the events that happen at them
abbrev pub entities_on : {T : Type 0} → List ℕ → ℕ → List T → List (ℕ × T)
entities_on lines i entities = filter (λ x. is_on lines i x.0) (enumerate_from 0 entities)

abbrev pub events_on : {P : Type 0} → List ℕ → ℕ → List (Event P) → List (Event P)
events_on lines i events = filter (λ e. is_on lines i e.entity) events

-- the mappings from entities of timeline i to entities of timeline i
abbrev pub inside_on : List ℕ → ℕ → List Mapping → List Mapping
inside_on lines i mappings = filter (λ m. is_on lines i m.from && is_on lines i m.to) mappings

-- a mapping between two timelines, at its place among all of these: an appointed one where its delay, in ticks, is below the
-- threshold
abbrev pub cross_of : ℕ → ℕ × Mapping → Cross
cross_of threshold x = record { mapping = x.1; place = x.0; appointed = nat_lt x.1.delay threshold }

-- all mappings between two timelines. They have the order of the plan, which is the rising order of their channels
abbrev pub crosses_of : List ℕ → ℕ → List Mapping → List Cross
crosses_of lines threshold mappings = map (cross_of threshold) (enumerate_from 0 (filter (is_cross lines) mappings))

-- those of them that lead to timeline i, and those that lead from it
abbrev pub into : List ℕ → ℕ → List Cross → List Cross
into lines i crosses = filter (λ x. is_on lines i x.mapping.to) crosses

abbrev pub out_of : List ℕ → ℕ → List Cross → List Cross
out_of lines i crosses = filter (λ x. is_on lines i x.mapping.from) crosses

-- the channel and the two timelines of such a mapping
abbrev pub end_of : List ℕ → Cross → CrossEnd
end_of lines x = record { channel = x.mapping.channel; sender = line_of lines x.mapping.from; receiver = line_of lines x.mapping.to }

-- the timer channels of these processes
abbrev pub timers_in : List Process → List ℕ
timers_in processes = flat_map (λ p. option_to_list p.timer) processes

-- the channels on which the entities of timeline i write: the timer channels of their processes, and then the channels of the
-- mappings that lead from them
abbrev pub timers_on : {B S P : Type 0} → List ℕ → ℕ → List (Entity B S P) → List ℕ
timers_on lines i entities = flat_map (λ x. timers_in x.1.processes) (entities_on lines i entities)

abbrev pub mapped_on : List ℕ → ℕ → List Mapping → List ℕ
mapped_on lines i mappings = map (λ m. m.channel) (filter (λ m. is_on lines i m.from) mappings)

abbrev pub channels_on : {B S P : Type 0} → Plan B S P → List ℕ → ℕ → List ℕ
channels_on plan lines i = timers_on lines i plan.entities ++ mapped_on lines i plan.mappings

-- a channel with its count
abbrev pub counted_in : List ℕ → ℕ → ℕ × ℕ
counted_in counts c = (c, counts_of counts c)

-- the share of timeline i
abbrev pub share_of : {B S P : Type 0} → Plan B S P → List ℕ → ℕ → ℕ → Part B S P
share_of plan lines threshold i = record {
  entities = entities_on lines i plan.entities;
  events = events_on lines i plan.events;
  inside = inside_on lines i plan.mappings;
  ins = into lines i (crosses_of lines threshold plan.mappings);
  outs = out_of lines i (crosses_of lines threshold plan.mappings);
  counts = map (counted_in plan.counts) (channels_on plan lines i);
}

-- the shares of all timelines, and what else there is of the plan
abbrev pub shares_of : {B S P : Type 0} → Plan B S P → List ℕ → ℕ → Shares B S P
shares_of plan lines threshold = record {
  behaviour = plan.behaviour;
  parts = map (share_of plan lines threshold) (range_with_len 0 (timeline_count lines));
  ends = map (end_of lines) (crosses_of lines threshold plan.mappings);
  starts = take (length plan.entities) plan.counts;
  before = plan.before;
}
