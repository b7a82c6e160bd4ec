-- Timelines of one node of a ring, which writes to other timelines alone.
use Rattle.std.specs.Prelude.{ℕ, ◌≡◌, ◌≤◌, ◌<◌, ◌⊎◌, Bool, true, false, List, [], ◌∷◌, map, length, None}
use Rattle.ssf_model.specs.declared.event.Event.{Event}
use Rattle.ssf_model.specs.declared.wait.Kind.{Kind}
use Rattle.ssf_model.specs.declared.wait.Kind.TheVariants.{Begin, Timer, Message}
use Rattle.ssf_model.specs.declared.entity.Entity.{Entity}
use Rattle.ssf_model.specs.declared.process.Process.{Process}
use Rattle.ssf_model.specs.Reaction.{Each, LongestDelay}
use Rattle.ssf_model.specs.Wake.{timer_delay}
use Rattle.ring_model.specs.declared.ring.RingState.{RingState}
use Rattle.ring_model.specs.declared.ring.RingPayload.{RingPayload}
use Rattle.timeline_parts.specs.Tables.{numbers_of}
use Rattle.timeline_parts.specs.Sending.{count_of, written_of}
use Rattle.timeline_parts.specs.declared.ends.InEnd.{InEnd}
use Rattle.timeline_parts.specs.declared.part.Cross.{Cross}
use Rattle.timeline_parts.specs.declared.part.Part.{Part}
use Rattle.timeline.specs.View.{TimelineOf}
use Rattle.timeline.specs.Holding.{taken_of}
use Rattle.timeline_parts.specs.Parts.{channel_of}

abbrev pub ends_a_wait : Kind RingPayload → Bool
ends_a_wait Begin = false
ends_a_wait (Timer process ticket) = true
ends_a_wait (Message channel payload) = false

-- a start or a message for this node, of a small round
pub record IsPlain (number : ℕ) (e : Event RingPayload) : Type 0 where
  pub entity : e.entity ≡ number
  pub kind : ends_a_wait e.kind ≡ false
  pub round : e.key.round < 1000

-- the node's own start, or an event that was taken from its channel
abbrev pub HasCome : ℕ → List (ℕ × InEnd) → Event RingPayload → Type 0
HasCome number ends e = (e.key.channel ≡ number) ⊎ (e.key.number < taken_of ends e.key.channel)

-- all that is pending is for this node and has come to it, and all that it writes goes to other timelines, on channels that are counted
pub record IsTame {B : Type 0} (number : ℕ) (t : TimelineOf B RingState RingPayload) : Type 0 where
  pub pending : Each (IsPlain number) t.pending
  pub come : Each (HasCome number t.in_ends) t.pending
  pub inside : t.inside ≡ []
  pub counts : numbers_of t.counts ≡ map channel_of t.outs
  pub ends : numbers_of t.out_ends ≡ map channel_of t.outs
  pub in_ends : numbers_of t.in_ends ≡ map channel_of t.ins
  pub few : (c : ℕ) → count_of t.counts c ≤ t.executed
  pub few_out : (c : ℕ) → written_of t.out_ends c ≤ t.executed

-- a node of a ring with at most one token, which has acted a few times
pub record IsNode {B : Type 0} (x : Entity B RingState RingPayload) : Type 0 where
  pub process : Process
  pub one : x.processes ≡ process ∷ []
  pub untimed : process.timer ≡ None
  pub patient : timer_delay process.wait ≡ None
  pub ticket : process.ticket < 1000
  pub ins : x.in_channels ≡ x.state.node ∷ []
  pub outs : x.out_channels ≡ x.state.node ∷ []
  pub tokens : x.state.tokens ≤ 1

-- one such node, with this number
pub record IsOne {B : Type 0} (number : ℕ) (entities : List (ℕ × Entity B RingState RingPayload)) : Type 0 where
  pub node : Entity B RingState RingPayload
  pub is : entities ≡ (number, node) ∷ []
  pub small : IsNode node

-- there is one such node, and at most one hop from it, with a delay in range
pub record IsSimple {B : Type 0} (number : ℕ) (t : TimelineOf B RingState RingPayload) : Type 0 where
  pub one : IsOne number t.entities
  pub few : length t.outs ≤ 1
  pub short : Each (λ (cross : Cross). cross.mapping.delay ≤ LongestDelay) t.outs

abbrev pub first_count : Cross → ℕ × ℕ
first_count cross = (cross.mapping.channel, 0)

-- the part of one node with these hops to it and from it
pub record IsNodePart {B : Type 0} (number : ℕ) (ins outs : List Cross) (part : Part B RingState RingPayload) : Type 0 where
  pub numbers : numbers_of part.entities ≡ number ∷ []
  pub event : Event RingPayload
  pub events : part.events ≡ event ∷ []
  pub plain : IsPlain number event
  pub own : event.key.channel ≡ number
  pub inside : part.inside ≡ []
  pub ins_are : part.ins ≡ ins
  pub outs_are : part.outs ≡ outs
  pub counts : part.counts ≡ map first_count outs

-- one event for this node, the next on a channel from which so many were taken
pub record IsLone (number channel taken : ℕ) (events : List (Event RingPayload)) : Type 0 where
  pub event : Event RingPayload
  pub is : events ≡ event ∷ []
  pub plain : IsPlain number event
  pub on : event.key.channel ≡ channel
  pub next : event.key.number ≡ taken
  pub other : channel ≡ number → ⊥

-- no event, or one such
abbrev pub IsSmall : ℕ → ℕ → ℕ → List (Event RingPayload) → Type 0
IsSmall number channel taken events = (events ≡ []) ⊎ IsLone number channel taken events
