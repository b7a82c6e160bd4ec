-- The wake rule: what an event makes of its entity. The processes that it wakes act one after another, in their order.
use Rattle.std.specs.Prelude.{ℕ, ◌≤◌, ◌+◌, Bool, false, cond, ◌&&◌, nat_eq, List, [], ◌∷◌, ◌++◌, map, Option, Some, None, IfSome, slice_get}
use Rattle.std.specs.List.{count_by}
use Rattle.ssf_model.specs.declared.wait.Wake.{Wake}
use Rattle.ssf_model.specs.declared.wait.Wake.TheVariants.{Begin as BeginWake, Timer as TimerWake, Message as MessageWake}
use Rattle.ssf_model.specs.declared.wait.Kind.{Kind}
use Rattle.ssf_model.specs.declared.wait.Kind.TheVariants.{Begin, Timer, Message}
use Rattle.ssf_model.specs.declared.out.Written.{Written}
use Rattle.ssf_model.specs.declared.out.Written.TheVariants.{Channel, Timer as TimerWrite}
use Rattle.ssf_model.specs.declared.event.Line.{Line}
use Rattle.ssf_model.specs.declared.process.Process.{Process}
use Rattle.ssf_model.specs.Wake.{waits_on, timer_delay, IsTimelyTicket}
use Rattle.ssf_model.specs.Reaction.{Reaction, Validity, LatestTime, is_timed, wait_of}

-- how an event of this kind wakes process number i, if it does: a start wakes every process, the end of a wait the
-- one process whose ticket it carries, a message each that waits on its in-channel
abbrev pub wake_of : {P : Type 0} → Kind P → ℕ → Process → Option (Wake P)
wake_of Begin i p = Some BeginWake
wake_of (Timer process ticket) i p = cond (nat_eq process i && nat_eq ticket p.ticket) (Some TimerWake) None
wake_of (Message channel payload) i p = cond (waits_on p.wait channel) (Some (MessageWake channel payload)) None

-- the write on a process's timer channel, where its new wait ends by itself
abbrev pub timer_write : {P : Type 0} → ℕ → ℕ → Option ℕ → List (Written P)
timer_write i ticket (Some delay) = TimerWrite i delay ticket ∷ []
timer_write i ticket None = []

-- a process and its entity's state after it was woken or not
pub record Reacted (S P : Type 0) : Type 0 where
  pub state : S
  pub process : Process
  pub writes : List (Written P)
  pub lines : List Line

-- process number i acts where something wakes it: then its ticket rises by one, and the answer is its wait
abbrev pub reacted : {S P : Type 0} → Reaction S P → ℕ → ℕ → S → Process → Option (Wake P) → Reacted S P
reacted r now i s p None = record { state = s; process = p; writes = []; lines = [] }
reacted r now i s p (Some wake) =
    let o = r s i now wake in
    record { state = o.state; process = record { wait = o.wait; ticket = p.ticket + 1; timer = p.timer }; writes = o.writes ++ timer_write i (p.ticket + 1) (timer_delay o.wait); lines = o.lines }

-- an entity's state and processes after an event, with what was written and told
pub record Delivered (S P : Type 0) : Type 0 where
  pub state : S
  pub processes : List Process
  pub writes : List (Written P)
  pub lines : List Line

-- these processes, of which the first has the number i, act in their order
abbrev pub delivered : {S P : Type 0} → Reaction S P → ℕ → Kind P → ℕ → S → List Process → Delivered S P
delivered r now kind i s [] = record { state = s; processes = []; writes = []; lines = [] }
delivered r now kind i s (p ∷ ps) =
    let first = reacted r now i s p (wake_of kind i p) in
    let rest = delivered r now kind (i + 1) first.state ps in
    record { state = rest.state; processes = first.process ∷ rest.processes; writes = first.writes ++ rest.writes; lines = first.lines ++ rest.lines }

-- the end of a wait carries a ticket by the rule of tickets
abbrev pub IsTimely : {P : Type 0} → Kind P → List Process → Type 0
IsTimely (Timer process ticket) ps = IfSome (slice_get ps process) (λ p. IsTimelyTicket p.wait p.ticket ticket)
IsTimely Begin ps = Unit {0}
IsTimely (Message channel payload) ps = Unit {0}

-- what a message brings is what messages carry
abbrev pub IsCarried : {P : Type 0} → (P → Type 0) → Kind P → Type 0
IsCarried carried (Message channel payload) = carried payload
IsCarried carried Begin = Unit {0}
IsCarried carried (Timer process ticket) = Unit {0}

-- the test that a write is one on this out-channel
abbrev pub is_write_on : {P : Type 0} → ℕ → Written P → Bool
is_write_on c (Channel channel delay payload) = nat_eq channel c
is_write_on c (TimerWrite process delay ticket) = false

-- the most writes of one event on one out-channel
abbrev pub MostWrites : ℕ
MostWrites = 4194304

-- the law on one event: the actions of all its processes together write at most so often on one out-channel
abbrev pub IsModest : {S P : Type 0} → Validity S → (P → Type 0) → Reaction S P → Type 0
IsModest {S} {P} valid carried r = (s : S) (ins outs : List ℕ) (ps : List Process) (now : ℕ) (kind : Kind P) →
    valid s ins outs (map is_timed ps) (map wait_of ps) → now ≤ LatestTime → IsTimely kind ps → IsCarried carried kind →
    (c : ℕ) → count_by (is_write_on c) (delivered r now kind 0 s ps).writes ≤ MostWrites
