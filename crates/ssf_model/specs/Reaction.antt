-- What a behaviour is: how a process reacts to what wakes it, which states are valid, and what every reaction keeps.
use Rattle.std.specs.Prelude.{ℕ, ◌≡◌, ◌≤◌, Bool, true, false, List, [], ◌∷◌, Some, is_some, slice_get, slice_set}
use Rattle.event_order.specs.Pending.{Among}
use Rattle.ssf_model.specs.declared.wait.Wait.{Wait}
use Rattle.ssf_model.specs.declared.wait.Wait.TheVariants.{On, For, OnFor, Forever}
use Rattle.ssf_model.specs.declared.wait.Wake.{Wake}
use Rattle.ssf_model.specs.declared.wait.Wake.TheVariants.{Begin, Timer, Message}
use Rattle.ssf_model.specs.declared.out.Written.{Written}
use Rattle.ssf_model.specs.declared.out.Written.TheVariants.{Channel, Timer as TimerWrite}
use Rattle.ssf_model.specs.declared.event.Line.{Line}
use Rattle.ssf_model.specs.declared.process.Process.{Process}
use Rattle.ssf_model.specs.Wake.{waits_on, HasTimer}

-- the longest time of an event and the longest delay, in ticks
abbrev pub LatestTime : ℕ
LatestTime = 1000000000000000000

abbrev pub LongestDelay : ℕ
LongestDelay = 1000000000000000

-- P holds of each element
abbrev pub Each : {T : Type 0} → (T → Type 0) → List T → Type 0
Each P [] = Unit {0}
Each P (x ∷ xs) = P x × Each P xs

-- what an action makes of its entity's state, and what it waits for, writes and tells
pub record Outcome (S P : Type 0) : Type 0 where
  pub state : S
  pub wait : Wait
  pub writes : List (Written P)
  pub lines : List Line

-- from a state, the number of a process, the time and what wakes it
abbrev pub Reaction : Type 0 → Type 0 → Type 0
Reaction S P = S → ℕ → ℕ → Wake P → Outcome S P

-- of a state, its entity's own in-channels and out-channels, which of its processes are timed, and what they wait for
abbrev pub Validity : Type 0 → Type 1
Validity S = S → List ℕ → List ℕ → List Bool → List Wait → Type 0

-- a process that waits so can be woken so
abbrev pub Admits : {P : Type 0} → Wait → Wake P → Type 0
Admits wait Begin = Unit {0}
Admits wait Timer = HasTimer wait
Admits wait (Message channel payload) = waits_on wait channel ≡ true

-- where a message wakes a process, its payload is one that messages carry
abbrev pub Carries : {P : Type 0} → (P → Type 0) → Wake P → Type 0
Carries carried Begin = Unit {0}
Carries carried Timer = Unit {0}
Carries carried (Message channel payload) = carried payload

abbrev pub is_timed : Process → Bool
is_timed process = is_some process.timer

abbrev pub wait_of : Process → Wait
wait_of process = process.wait

-- process number i, which is woken so at this time, is one of an entity in a valid state
pub record IsReady {S P : Type 0} (valid : Validity S) (carried : P → Type 0) (s : S) (i now : ℕ) (wake : Wake P) : Type 0 where
  pub ins : List ℕ
  pub outs : List ℕ
  pub timed : List Bool
  pub waits : List Wait
  pub wait : Wait
  pub is_valid : valid s ins outs timed waits
  pub waiting : slice_get waits i ≡ Some wait
  pub admits : Admits wait wake
  pub carries : Carries carried wake
  pub time : now ≤ LatestTime

-- an action writes on out-channels of its entity, with delays in range, what messages carry
abbrev pub IsOwnWrite : {P : Type 0} → (P → Type 0) → List ℕ → Written P → Type 0
IsOwnWrite carried outs (Channel channel delay payload) = Among channel outs × (delay ≤ LongestDelay) × carried payload
IsOwnWrite carried outs (TimerWrite process delay ticket) = ⊥

-- a wait on in-channels of the entity, for a time in range
abbrev pub IsOwnWait : List ℕ → Wait → Type 0
IsOwnWait ins (On channels) = Each (λ c. Among c ins) channels
IsOwnWait ins (For ticks) = ticks ≤ LongestDelay
IsOwnWait ins (OnFor channels ticks) = Each (λ c. Among c ins) channels × (ticks ≤ LongestDelay)
IsOwnWait ins Forever = Unit {0}

-- the in-channels that a wait names
abbrev pub channels_named : Wait → List ℕ
channels_named (On channels) = channels
channels_named (For ticks) = []
channels_named (OnFor channels ticks) = channels
channels_named Forever = []

-- what the action of process number i keeps: validity, and the bounds of its entity
pub record Keeps {S P : Type 0} (valid : Validity S) (carried : P → Type 0) (ins outs : List ℕ) (timed : List Bool) (waits : List Wait)
    (i : ℕ) (o : Outcome S P) : Type 0 where
  pub stays : valid o.state ins outs timed (slice_set waits i o.wait)
  pub own_writes : Each (IsOwnWrite carried outs) o.writes
  pub own_wait : IsOwnWait ins o.wait
  pub untimed : slice_get timed i ≡ Some false → HasTimer o.wait → ⊥

-- the law of every behaviour: a valid state stays valid, and what is written and waited for is its entity's own
abbrev pub KeepsValid : {S P : Type 0} → Validity S → (P → Type 0) → Reaction S P → Type 0
KeepsValid {S} {P} valid carried r = (s : S) (i now : ℕ) (wake : Wake P) (ready : IsReady valid carried s i now wake) →
    Keeps valid carried ready.ins ready.outs ready.timed ready.waits i (r s i now wake)
