-- Facts on the run of a machine: which event is executed where, and which one wrote it.
use Rattle.std.specs.Prelude.{◌≡◌, ℕ, zero, suc, ◌<◌, ◌≤◌, ◌⊎◌, Bool, true, false, List, [], ◌∷◌, filter, Some, None}
use Rattle.event_order.specs.declared.key.Key.{Key}
use Rattle.event_order.specs.Pending.{Among}
use Rattle.event_order.specs.Machine.{Machine, World, after, event, first_events}

-- the run has no event from number n on
abbrev pub IsOver : {X E : Type 0} → Machine X E → ℕ → (Key → Bool) → World X E → ℕ → Type 0
IsOver m until kept w n = event m until kept w n ≡ None

-- event number n writes x, and the cut keeps it
pub record WrittenAt {X E : Type 0} (m : Machine X E) (until : ℕ) (kept : Key → Bool) (w : World X E) (n : ℕ) (x : E) : Type 0 where
  pub by : E
  pub is : event m until kept w n ≡ Some by
  pub among : Among x (m.writes (after m until kept w n).state by)
  pub passes : kept (m.key x) ≡ true

-- an event before number n writes x
pub record WrittenBefore {X E : Type 0} (m : Machine X E) (until : ℕ) (kept : Key → Bool) (w : World X E) (n : ℕ) (x : E) : Type 0 where
  pub at : ℕ
  pub before : at < n
  pub written : WrittenAt m until kept w at x

-- x is an event from number n on and before number k
pub record ExecutedWithin {X E : Type 0} (m : Machine X E) (until : ℕ) (kept : Key → Bool) (w : World X E) (n k : ℕ) (x : E) : Type 0 where
  pub at : ℕ
  pub from : n ≤ at
  pub below : at < k
  pub is : event m until kept w at ≡ Some x

-- x stands in the opening, or some event of the run writes it
abbrev pub Arises : {X E : Type 0} → Machine X E → ℕ → (Key → Bool) → World X E → E → Type 0
Arises m until kept w x = Among x w.pending ⊎ ((k : ℕ) × WrittenAt m until kept w k x)

-- no event from number n on and before number k passes the test
abbrev pub NoneBetween : {X E : Type 0} → Machine X E → ℕ → (Key → Bool) → World X E → (E → Bool) → ℕ → ℕ → Type 0
NoneBetween {X} {E} m until kept w mine n k = (j : ℕ) (e : E) → n ≤ j → j < k → event m until kept w j ≡ Some e → mine e ≡ false

-- the run of a machine up to the time `until`, with a cut, from an opening on
pub record Run (X E : Type 0) : Type 0 where
  pub machine : Machine X E
  pub until : ℕ
  pub kept : Key → Bool
  pub opening : World X E

-- an event and its number in a run
pub record Numbered (E : Type 0) : Type 0 where
  pub number : ℕ
  pub event : E

-- an event of the run, the cause, writes another, the effect, and is executed before it: at one time with it, one round
-- lower, and joined to it
pub record IsLink {X E : Type 0} (run : Run X E) (joined : E → E → Type 0) (cause effect : Numbered E) : Type 0 where
  pub is : event run.machine run.until run.kept run.opening cause.number ≡ Some cause.event
  pub earlier : cause.number < effect.number
  pub written : Among effect.event (run.machine.writes (after run.machine run.until run.kept run.opening cause.number).state cause.event)
  pub time : (run.machine.key cause.event).time ≡ (run.machine.key effect.event).time
  pub round : suc (run.machine.key cause.event).round ≡ (run.machine.key effect.event).round
  pub link : joined cause.event effect.event

-- before an event of the run stand as many as `rounds` says, each of which wrote the next and is joined to it
abbrev pub Chain : {X E : Type 0} → Run X E → (E → E → Type 0) → Numbered E → ℕ → Type 0
Chain run joined effect zero = Unit {0}
Chain {X} {E} run joined effect (suc rounds) = (cause : Numbered E) × IsLink run joined cause effect × Chain run joined cause rounds

-- the events among the first n that pass the test
abbrev pub share : {X E : Type 0} → Machine X E → ℕ → (Key → Bool) → World X E → (E → Bool) → ℕ → List E
share m until kept w mine n = filter mine (first_events m until kept w n)

-- what these events, one after another, make of a state
abbrev pub acted : {X E : Type 0} → Machine X E → X → List E → X
acted m x [] = x
acted m x (e ∷ es) = acted m (m.acts x e) es
