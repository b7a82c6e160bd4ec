-- How far a timeline may execute, and what holds it there.
use Rattle.std.specs.Prelude.{ℕ, ◌≡◌, ◌≤◌, ◌+◌, Bool, true, false, cond, nat_eq, nat_le, nat_lt, ◌&&◌, min, not, List, [], ◌∷◌, length, is_some, slice_index, option_map, unwrap_or}
use Rattle.event_order.specs.Machine.{due}
use Rattle.ssf_model.specs.Reaction.{LatestTime, Each}
use Rattle.ssf_model.specs.declared.event.Event.{Event}
use Rattle.ssf_model.specs.declared.plan.Mapping.{Mapping}
use Rattle.run_health.specs.Healthy.{MostEvents}
use Rattle.sync_rules.specs.Bounds.{head_time}
use Rattle.timeline_parts.specs.declared.ends.InEnd.{InEnd}
use Rattle.timeline_parts.specs.declared.ends.OutEnd.{OutEnd}
use Rattle.timeline_parts.specs.Tables.{AreNumbered, item_at}
use Rattle.timeline.specs.declared.answers.Holder.{Holder}
use Rattle.timeline.specs.declared.answers.Holder.TheVariants.{Channel, Window}
use Rattle.timeline.specs.View.{TimelineOf, key_of, time_in, routes_by}

-- the least of a time and the appointments of appointed channels
abbrev pub least_held : ℕ → List (ℕ × InEnd) → ℕ
least_held top [] = top
least_held top (e ∷ es) = least_held (cond e.1.appointed (min top e.1.held) top) es

-- the first channel whose appointment is this time, if there is one
abbrev pub holder_of : ℕ → List (ℕ × InEnd) → Holder
holder_of bound [] = Window
holder_of bound (e ∷ es) = cond (e.1.appointed && nat_eq e.1.held bound) (Channel e.0) (holder_of bound es)

-- the first of these events is before the bound
abbrev pub is_free : {P : Type 0} → ℕ → List (Event P) → Bool
is_free bound [] = false
is_free bound (e ∷ es) = nat_lt e.key.time bound

module _ {B S P : Type 0} where
  -- the time before which a timeline executes: the least of its window and the appointments that it holds
  abbrev pub bound_in : TimelineOf B S P → ℕ
  bound_in t = least_held t.entered t.in_ends

  abbrev pub holder_in : TimelineOf B S P → Holder
  holder_in t = holder_of (bound_in t) t.in_ends

  -- the least of its bound and the time of its first pending event
  abbrev pub low_in : TimelineOf B S P → ℕ
  low_in t = head_time time_in (bound_in t) t.pending

  -- the least of a tick after the end, the time of its first pending event, and its least arrival
  abbrev pub ahead_in : TimelineOf B S P → ℕ
  ahead_in t = min (head_time time_in (t.until + 1) t.pending) t.arrival

  -- no pending event is in time
  abbrev pub is_done : TimelineOf B S P → Bool
  is_done t = not (is_some (due key_of t.until t.pending))

  -- the first pending event could be executed but for the budget, which is spent
  abbrev pub is_over : TimelineOf B S P → Bool
  is_over t = (is_some (due key_of t.until t.pending) && is_free (bound_in t) t.pending) && nat_le t.budget t.executed

-- as much was taken from each channel as the counts say, which stand at the channels' places
abbrev pub has_taken : List (ℕ × InEnd) → List ℕ → Bool
has_taken [] counts = true
has_taken (e ∷ es) counts = nat_le (slice_index counts e.1.place) e.1.taken && has_taken es counts

-- how many events were taken from a channel, and the appointment that is held on it: none of a channel that has no such end
abbrev pub taken_of : List (ℕ × InEnd) → ℕ → ℕ
taken_of ends c = unwrap_or (option_map (λ e. e.taken) (item_at c ends)) 0

abbrev pub held_of : List (ℕ × InEnd) → ℕ → ℕ
held_of ends c = unwrap_or (option_map (λ e. e.held) (item_at c ends)) 0

-- what was posted on a channel and what stands in its outbox is all that was written on it
abbrev pub IsFilled : {P : Type 0} → ℕ × OutEnd P → Type 0
IsFilled x = x.1.posted + length x.1.outbox ≡ x.1.written

-- what is in order in every timeline: its times and numbers are in range, its tables rise, and its outboxes have what is not posted
pub record IsInOrder {B S P : Type 0} (t : TimelineOf B S P) : Type 0 where
  pub until : t.until ≤ LatestTime
  pub budget : t.budget ≤ MostEvents
  pub few : t.executed ≤ t.budget
  pub entities : AreNumbered t.entities
  pub counts : AreNumbered t.counts
  pub in_ends : AreNumbered t.in_ends
  pub out_ends : AreNumbered t.out_ends
  pub filled : Each IsFilled t.out_ends

-- and each keeps its bound, and the mappings of each out-channel
pub record IsKept {B S P : Type 0} (t : TimelineOf B S P) (routes : ℕ → List Mapping) (bound : ℕ) (holder : Holder) : Type 0 where
  pub order : IsInOrder t
  pub sends : (out : ℕ) → routes out ≡ routes_by t.inside t.outs out
  pub bound_is : bound ≡ bound_in t
  pub holder_is : holder ≡ holder_in t
