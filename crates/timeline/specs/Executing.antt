-- The execution of the next event: when it is refused, and what it makes of a timeline.
use Rattle.std.specs.Prelude.{◌≡◌, ◌+◌, ◌-◌, ◌^◌, ◌<◌, true, cond, nat_le, not, List, [], ◌∷◌, ◌++◌, Option, Some, None}
use Rattle.std.specs.List.{All, flat_map}
use Rattle.event_order.specs.Pending.{put_all}
use Rattle.ssf_model.specs.declared.event.Event.{Event}
use Rattle.ssf_model.specs.declared.process.Process.{Process}
use Rattle.ssf_model.specs.declared.entity.Entity.{Entity}
use Rattle.ssf_model.specs.Reaction.{Reaction, Validity}
use Rattle.ssf_model.specs.Deliver.{IsTimely}
use Rattle.ssf_model.specs.Entities.{IsValidEntity}
use Rattle.ssf_model.specs.Channels.{Sent, delivered_to, entity_after, numbered}
use Rattle.ssf_model.specs.Run.{entry_by}
use Rattle.timeline_parts.specs.Tables.{item_at, changed}
use Rattle.timeline_parts.specs.Sending.{sent_on, count_of, all_counted, all_put, MaySend}
use Rattle.timeline_parts.specs.Settling.{staying, least_arriving, AreNew}
use Rattle.timeline.specs.declared.answers.Ran.{Ran}
use Rattle.timeline.specs.declared.answers.Ran.TheVariants.{Held, Idle, Over, Spent}
use Rattle.timeline.specs.View.{TimelineOf, key_of, routes_by}
use Rattle.timeline.specs.Holding.{bound_in, holder_in, is_done, is_free}

module _ {B S P : Type 0} where
  -- an event can be executed at this entity
  pub record MayAct (valid : Validity S) (e : Event P) (entity : Entity B S P) : Type 0 where
    pub is_valid : IsValidEntity valid entity
    pub timely : IsTimely e.kind entity.processes
    pub tickets : All (λ (p : Process). p.ticket < 2 ^ 64 - 1) entity.processes

  -- why the next event is not executed, if it is not: the first of these causes
  abbrev pub refusal : TimelineOf B S P → Option Ran
  refusal t =
      cond t.spent (Some Spent)
      (cond (is_done t) (Some Idle)
      (cond (not (is_free (bound_in t) t.pending)) (Some (Held (bound_in t) (holder_in t)))
      (cond (nat_le t.budget t.executed) (Some Over) None)))

  -- what an event sends at this entity, and the events that it writes
  abbrev pub sent_in : Reaction S P → TimelineOf B S P → Event P → Entity B S P → List (Sent P)
  sent_in r t e entity = let d = delivered_to r e entity in flat_map (sent_on (routes_by t.inside t.outs) e.entity d.processes) d.writes

  abbrev pub written_in : Reaction S P → TimelineOf B S P → Event P → Entity B S P → List (Event P)
  written_in r t e entity = numbered e.key (count_of t.counts) (sent_in r t e entity)

  -- the first pending event can be executed at its entity: all numbers stay in range, and all keys are new
  pub record MayRun (valid : Validity S) (r : Reaction S P) (t : TimelineOf B S P) (e : Event P) (rest : List (Event P)) : Type 0 where
    pub entity : Entity B S P
    pub at : item_at e.entity t.entities ≡ Some entity
    pub acts : MayAct valid e entity
    pub may : MaySend e.key (sent_in r t e entity) t.counts t.out_ends
    pub new : AreNew (staying t.out_ends (written_in r t e entity)) rest

  -- there was no memory for it: of the timeline only entities and the room for events may have changed
  abbrev pub IsBroken : TimelineOf B S P → TimelineOf B S P → Type 0
  IsBroken t after = after ≡ record t { entities = after.entities; spare = after.spare }

  -- the first pending event was executed
  pub record IsRun (r : Reaction S P) (t : TimelineOf B S P) (after : TimelineOf B S P) : Type 0 where
    pub event : Event P
    pub rest : List (Event P)
    pub first : t.pending ≡ event ∷ rest
    pub entity : Entity B S P
    pub at : item_at event.entity t.entities ≡ Some entity
    pub is : after ≡ record t {
      entities = changed event.entity (λ (e : Entity B S P). entity_after (delivered_to r event entity) entity) t.entities;
      counts = all_counted (written_in r t event entity) t.counts;
      out_ends = all_put (written_in r t event entity) t.out_ends;
      pending = put_all key_of (staying t.out_ends (written_in r t event entity)) rest;
      spare = after.spare;
      arrival = least_arriving t.out_ends t.entered (written_in r t event entity) t.arrival;
      executed = t.executed + 1;
      history = t.history ++ entry_by r event (Some entity) ∷ [];
    }

  -- there was no memory for it: nothing but its entities and the room for events has changed, and it is spent
  abbrev pub spent_of : TimelineOf B S P → TimelineOf B S P → TimelineOf B S P
  spent_of t after = record t { entities = after.entities; spare = after.spare; spent = true }
