-- A run and how it is shared out to timelines: what the facts in Truth.antt speak of. All of it is data.
use Rattle.std.specs.Prelude.{ℕ, Bool, Option}
use Rattle.event_order.specs.declared.key.Key.{Key}
use Rattle.event_order.specs.Machine.{Machine, World, after, event}
use Rattle.event_order.specs.Run.{Run}
use Rattle.ssf_model.specs.declared.event.Event.{Event}
use Rattle.ssf_model.specs.declared.event.Entry.{Entry}
use Rattle.ssf_model.specs.declared.plan.Plan.{Plan}
use Rattle.ssf_model.specs.Reaction.{Reaction}
use Rattle.ssf_model.specs.Run.{States, machine_of, opening, entry_at}

-- how many timelines and channels there are; of each channel whether it crosses from one timeline to another, whether it
-- is then an appointed one, the timelines of its two ends, and its delay; and the least delay of the windowed channels,
-- the cross ones that are not appointed
pub record Net : Type 0 where
  pub timelines : ℕ
  pub channels : ℕ
  pub cross : ℕ → Bool
  pub appointed : ℕ → Bool
  pub sender : ℕ → ℕ
  pub receiver : ℕ → ℕ
  pub delay : ℕ → ℕ
  pub lookahead : Option ℕ

-- a run of a machine up to the time `until`, with a cut, from an opening on; the timeline of each event; and what is kept
-- of an event that is executed in a state
pub record Scene (X E : Type 0) : Type 0 where
  pub machine : Machine X E
  pub until : ℕ
  pub kept : Key → Bool
  pub opening : World X E
  pub line : E → ℕ
  pub entry : X → E → Entry
  pub net : Net

-- the run of a plan, whose entities are numbered by timelines
abbrev pub scene_of : {B S P : Type 0} → Reaction S P → Plan B S P → ℕ → (Key → Bool) → (ℕ → ℕ) → Net → Scene (States B S P) (Event P)
scene_of r plan until kept line net = record {
  machine = machine_of r plan.mappings;
  until = until;
  kept = kept;
  opening = opening plan;
  line = λ e. line e.entity;
  entry = λ x e. entry_at r x.entities e;
  net = net;
}

-- its run alone
abbrev pub run_of : {X E : Type 0} → Scene X E → Run X E
run_of s = record { machine = s.machine; until = s.until; kept = s.kept; opening = s.opening }

-- the world after the first n events, and event number n, counted from 0
abbrev pub world_at : {X E : Type 0} → Scene X E → ℕ → World X E
world_at s n = after s.machine s.until s.kept s.opening n

abbrev pub event_at : {X E : Type 0} → Scene X E → ℕ → Option E
event_at s n = event s.machine s.until s.kept s.opening n

-- the time and the channel of an event
abbrev pub time_of : {X E : Type 0} → Scene X E → E → ℕ
time_of s e = (s.machine.key e).time

abbrev pub channel_of : {X E : Type 0} → Scene X E → E → ℕ
channel_of s e = (s.machine.key e).channel
