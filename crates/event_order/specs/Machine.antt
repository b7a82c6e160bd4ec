-- A machine that executes events one by one in the order of their keys, and its run.
use Rattle.std.specs.Prelude.{ℕ, zero, suc, Bool, true, cond, nat_le, List, [], ◌∷◌, ◌++◌, filter, Option, Some, None}
use Rattle.event_order.specs.declared.key.Key.{Key}
use Rattle.event_order.specs.Pending.{put_all}

-- the key of an event, what an event makes of a state, and the events that it writes there
pub record Machine (X E : Type 0) : Type 0 where
  pub key : E → Key
  pub acts : X → E → X
  pub writes : X → E → List E

-- a state, and the events that are still to be executed, in the order of their keys
pub record World (X E : Type 0) : Type 0 where
  pub state : X
  pub pending : List E

-- the first of these events, where its time is at most `until`
abbrev pub due : {E : Type 0} → (E → Key) → ℕ → List E → Option E
due key until [] = None
due key until (e ∷ es) = cond (nat_le (key e).time until) (Some e) None

-- what comes of executing e while es are pending: those of its writes whose keys are kept become pending
abbrev pub executed : {X E : Type 0} → Machine X E → (Key → Bool) → X → E → List E → World X E
executed m kept x e es = record { state = m.acts x e; pending = put_all m.key (filter (λ d. kept (m.key d)) (m.writes x e)) es }

-- one step: the event that is due is executed, and where none is, nothing happens
abbrev pub stepped : {X E : Type 0} → Machine X E → ℕ → (Key → Bool) → X → List E → World X E
stepped m until kept x [] = record { state = x; pending = [] }
stepped m until kept x (e ∷ es) = cond (nat_le (m.key e).time until) (executed m kept x e es) (record { state = x; pending = e ∷ es })

-- the world after the first n steps
abbrev pub after : {X E : Type 0} → Machine X E → ℕ → (Key → Bool) → World X E → ℕ → World X E
after m until kept w zero = w
after m until kept w (suc n) = let v = after m until kept w n in stepped m until kept v.state v.pending

-- event number n of the run, counted from 0. Where there is none the run has ended before it
abbrev pub event : {X E : Type 0} → Machine X E → ℕ → (Key → Bool) → World X E → ℕ → Option E
event m until kept w n = due m.key until (after m until kept w n).pending

-- an optional event in front of none
abbrev pub option_list : {E : Type 0} → Option E → List E
option_list None = []
option_list (Some e) = e ∷ []

-- the first n events of the run, and all of them where it has no more
abbrev pub first_events : {X E : Type 0} → Machine X E → ℕ → (Key → Bool) → World X E → ℕ → List E
first_events m until kept w zero = []
first_events m until kept w (suc n) = first_events m until kept w n ++ option_list (event m until kept w n)

-- the cut that keeps the rounds up to `most`, and the one that keeps all
abbrev pub within : ℕ → Key → Bool
within most key = nat_le key.round most

abbrev pub all_kept : Key → Bool
all_kept key = true
