-- At one event a host writes little on each channel: at most one of its processes writes.
use Rattle.std.proofs.Common.{◌≡◌, ◌⊎◌, ℕ, ◌+◌, ◌<◌, ◌≤◌, Bool, true, false, ◌&&◌, ◌||◌, cond, Option, Some, None, List, [], ◌∷◌, ◌++◌, map, nat_eq, refl, ap, subst, sym, inl, inr, arith}
use Rattle.std.specs.Prelude.{slice_get}
use Rattle.std.specs.List.{list_any, count_by}
use Rattle.std.proofs.lemmas.Bool.{eqb-true}
use Rattle.std.proofs.lemmas.Bool.Decides.{eqb_tells}
use Rattle.std.proofs.lemmas.List.Sums.{sum_by-append, count_by-le-length}
use Rattle.sim_base.specs.declared.records.ClientRow.{ClientRow}
use Rattle.ssf_model.specs.declared.wait.Wait.{Wait}
use Rattle.ssf_model.specs.declared.wait.Wait.TheVariants.{On, For, OnFor, Forever}
use Rattle.ssf_model.specs.declared.wait.Wake.{Wake}
use Rattle.ssf_model.specs.declared.wait.Wake.TheVariants.{Begin as BeginWake, Timer as TimerWake, Message as MessageWake}
use Rattle.ssf_model.specs.declared.wait.Kind.{Kind}
use Rattle.ssf_model.specs.declared.wait.Kind.TheVariants.{Begin, Timer, Message}
use Rattle.ssf_model.specs.declared.out.Written.{Written}
use Rattle.ssf_model.specs.declared.process.Process.{Process}
use Rattle.ssf_model.specs.Wake.{waits_on, timer_delay}
use Rattle.ssf_model.specs.Reaction.{Each, LatestTime, Carries, wait_of}
use Rattle.ssf_model.specs.Deliver.{IsModest, IsCarried, MostWrites, wake_of, timer_write, reacted, delivered, is_write_on}
use Rattle.ip_layer.specs.Packets.{PacketFields, IsPacket}
use Rattle.host_rules.specs.declared.rows.HostRows.{HostRows}
use Rattle.host_rules.specs.declared.rows.HostPort.{HostPort}
use Rattle.host_rules.specs.Hosts.{HostFields}
use Rattle.host_rules.specs.Reacting.{Role, Receiver, Clock, Client, clients_from, roles, reply_of, host_reaction}
use Rattle.host_rules.specs.Limits.{EachPair, IsWaitOf, AreWaits, IsHost}
use Rattle.host_rules.proofs.Sound.{few_writes}

no_channel : (i ticket c : ℕ) (delay : Option ℕ) → count_by (is_write_on {P = PacketFields} c) (timer_write i ticket delay) ≡ 0
no_channel i ticket c None = refl
no_channel i ticket c (Some delay) = refl

-- Processes of which at most one is woken: none of these, of which the first has the number i, or at most one.
abbrev NoneWoken : Kind PacketFields → ℕ → List Process → Type 0
NoneWoken kind i [] = Unit {0}
NoneWoken kind i (p ∷ ps) = (wake_of kind i p ≡ None) × NoneWoken kind (i + 1) ps

abbrev OneWoken : Kind PacketFields → ℕ → List Process → Type 0
OneWoken kind i [] = Unit {0}
OneWoken kind i (p ∷ ps) = ((wake_of kind i p ≡ None) × OneWoken kind (i + 1) ps) ⊎ NoneWoken kind (i + 1) ps

abbrev on_channel : ℕ → List (Written PacketFields) → ℕ
on_channel c writes = count_by (is_write_on c) writes

count_both : (c : ℕ) (xs ys : List (Written PacketFields)) → on_channel c (xs ++ ys) ≡ on_channel c xs + on_channel c ys
count_both c xs ys = sum_by-append (λ (w : Written PacketFields). cond (is_write_on c w) 1 0) xs ys

module _ (now c : ℕ) (kind : Kind PacketFields) where
  none_writes : (i : ℕ) (s : HostFields) (ps : List Process) → NoneWoken kind i ps → on_channel c (delivered host_reaction now kind i s ps).writes ≡ 0
  none_writes i s [] none = refl
  none_writes i s (p ∷ ps) none = none_at (wake_of kind i p) none.0 (λ t. none_writes (i + 1) t ps none.1)
    where
      none_at : (o : Option (Wake PacketFields)) → o ≡ None → ((t : HostFields) → on_channel c (delivered host_reaction now kind (i + 1) t ps).writes ≡ 0)
          → on_channel c ((reacted host_reaction now i s p o).writes ++ (delivered host_reaction now kind (i + 1) (reacted host_reaction now i s p o).state ps).writes) ≡ 0
      none_at None e rest = rest s
      none_at (Some wake) e rest = absurd (cc)

  one_writes : (s : HostFields) (bounded : (i : ℕ) (p : Process) (wake : Wake PacketFields) → wake_of kind i p ≡ Some wake → on_channel c (host_reaction s i now wake).writes ≤ MostWrites)
      (i : ℕ) (ps : List Process) → OneWoken kind i ps → on_channel c (delivered host_reaction now kind i s ps).writes ≤ MostWrites
  one_writes s bounded i [] one = omega arith
  one_writes s bounded i (p ∷ ps) one = one_at (wake_of kind i p) refl one (λ k. one_writes s bounded (i + 1) ps k)
    where
      one_at : (o : Option (Wake PacketFields)) → wake_of kind i p ≡ o → ((wake_of kind i p ≡ None) × OneWoken kind (i + 1) ps) ⊎ NoneWoken kind (i + 1) ps
          → (OneWoken kind (i + 1) ps → on_channel c (delivered host_reaction now kind (i + 1) s ps).writes ≤ MostWrites)
          → on_channel c ((reacted host_reaction now i s p o).writes ++ (delivered host_reaction now kind (i + 1) (reacted host_reaction now i s p o).state ps).writes) ≤ MostWrites
      one_at None e (inl k) rest = rest k.1
      one_at None e (inr none) rest = let zero_is = none_writes (i + 1) s ps none in omega (arith, zero_is)
      one_at (Some wake) e (inl k) rest = absurd (some_none (wake_of kind i p) wake e k.0)
        where
          some_none : (o : Option (Wake PacketFields)) (w : Wake PacketFields) → o ≡ Some w → o ≡ None → ⊥
          some_none None w e f = cc
          some_none (Some x) w e f = cc
      one_at (Some wake) e (inr none) rest =
          let o = host_reaction s i now wake in
          let timer = timer_write {P = PacketFields} i (p.ticket + 1) (timer_delay o.wait) in
          let after = (delivered host_reaction now kind (i + 1) o.state ps).writes in
          let none_is = none_writes (i + 1) o.state ps none in
          let few = bounded i p wake e in
          omega (arith, none_is, few, no_channel i (p.ticket + 1) c (timer_delay o.wait), count_both c o.writes timer, count_both c (o.writes ++ timer) after)

-- At its start no process writes.
begin_role : (s : HostFields) (role : Option Role) (now : ℕ) → (reply_of s role now BeginWake).effect.writes ≡ []
begin_role s None now = refl
begin_role s (Some (Receiver port)) now = refl
begin_role s (Some Clock) now = refl
begin_role s (Some (Client client row)) now = refl

begin_writes : (s : HostFields) (i now : ℕ) → (host_reaction s i now BeginWake).writes ≡ []
unfolding host_reaction
begin_writes s i now = begin_role s (slice_get (roles s.rows) i) now

all_begin : (now c i : ℕ) (s : HostFields) (ps : List Process) → on_channel c (delivered host_reaction now Begin i s ps).writes ≡ 0
all_begin now c i s [] = refl
all_begin now c i s (p ∷ ps) =
    let o = host_reaction s i now BeginWake in
    let timer = timer_write {P = PacketFields} i (p.ticket + 1) (timer_delay o.wait) in
    let after = (delivered host_reaction now Begin (i + 1) o.state ps).writes in
    let none : on_channel c o.writes ≡ 0 = ap (on_channel c) (begin_writes s i now) in
    omega (arith, none, all_begin now c (i + 1) o.state ps, no_channel i (p.ticket + 1) c (timer_delay o.wait), count_both c o.writes timer, count_both c (o.writes ++ timer) after)

-- The end of a wait wakes the process that it names.
other_number : (a b : ℕ) → (a ≡ b → ⊥) → nat_eq a b ≡ false
other_number a b differs = elim (eqb_tells a b) [ inl e ↦ absurd (differs e.1) | inr e ↦ e.0 ]

not_named : (process ticket i : ℕ) (p : Process) → nat_eq process i ≡ false → wake_of {P = PacketFields} (Timer process ticket) i p ≡ None
not_named process ticket i p e = ap (λ (b : Bool). cond {A = Option (Wake PacketFields)} (b && nat_eq ticket p.ticket) (Some TimerWake) None) e

later_not_named : (process ticket i : ℕ) (ps : List Process) → process < i → NoneWoken (Timer process ticket) i ps
later_not_named process ticket i [] late = tt
later_not_named process ticket i (p ∷ ps) late =
    (not_named process ticket i p (other_number process i (λ e. omega (arith, e, late))), later_not_named process ticket (i + 1) ps (omega (arith, late)))

one_named : (process ticket i : ℕ) (ps : List Process) → OneWoken (Timer process ticket) i ps
one_named process ticket i [] = tt
one_named process ticket i (p ∷ ps) = named_case (nat_eq process i) refl (one_named process ticket (i + 1) ps)
  where
    named_case : (b : Bool) → nat_eq process i ≡ b → OneWoken (Timer process ticket) (i + 1) ps
        → ((wake_of {P = PacketFields} (Timer process ticket) i p ≡ None) × OneWoken (Timer process ticket) (i + 1) ps) ⊎ NoneWoken (Timer process ticket) (i + 1) ps
    named_case true e rest = let same = eqb-true process i e in inr (later_not_named process ticket (i + 1) ps (omega (arith, same)))
    named_case false e rest = inl (not_named process ticket i p e, rest)

-- A message wakes the process that waits on its in-channel: at most one does, since the in-channels rise.
abbrev hears : HostRows → ℕ → Role → Bool
hears rows channel (Receiver port) = nat_eq port.in_channel channel
hears rows channel Clock = nat_eq rows.poke_in channel
hears rows channel (Client client row) = false

abbrev NoneHears : HostRows → ℕ → List Role → Type 0
NoneHears rows channel processes = Each (λ role. hears rows channel role ≡ false) processes

abbrev OneHears : HostRows → ℕ → List Role → Type 0
OneHears rows channel [] = Unit {0}
OneHears rows channel (role ∷ others) = ((hears rows channel role ≡ false) × OneHears rows channel others) ⊎ NoneHears rows channel others

only_one : (own channel : ℕ) (channels : List ℕ) → channels ≡ own ∷ [] → nat_eq own channel ≡ false → list_any (λ c. nat_eq c channel) channels ≡ false
only_one own channel channels e f =
    subst (λ (xs : List ℕ). list_any (λ c. nat_eq c channel) xs ≡ false) (sym e) (ap (λ (b : Bool). b || false) f)

deaf : (rows : HostRows) (channel : ℕ) (role : Role) (wait : Wait) → IsWaitOf rows role wait → hears rows channel role ≡ false → waits_on wait channel ≡ false
deaf rows channel (Receiver port) (On channels) is e = only_one port.in_channel channel channels is e
deaf rows channel (Receiver port) (For ticks) is e = refl
deaf rows channel (Receiver port) (OnFor channels ticks) is e = absurd is
deaf rows channel (Receiver port) Forever is e = refl
deaf rows channel Clock (On channels) is e = only_one rows.poke_in channel channels is e
deaf rows channel Clock (For ticks) is e = refl
deaf rows channel Clock (OnFor channels ticks) is e = only_one rows.poke_in channel channels is e
deaf rows channel Clock Forever is e = refl
deaf rows channel (Client client row) (On channels) is e = absurd is
deaf rows channel (Client client row) (For ticks) is e = refl
deaf rows channel (Client client row) (OnFor channels ticks) is e = absurd is
deaf rows channel (Client client row) Forever is e = refl

no_clients : (rows : HostRows) (channel n : ℕ) (clients : List ClientRow) → NoneHears rows channel (clients_from n clients)
no_clients rows channel n [] = tt
no_clients rows channel n (row ∷ others) = (refl, no_clients rows channel (n + 1) others)

abbrev channel_of : HostPort → ℕ
channel_of port = port.in_channel

none_after : (rows : HostRows) (channel : ℕ) (ports : List HostPort) (clients : List ClientRow) → Each (λ b. channel < b) (map channel_of ports ++ rows.poke_in ∷ [])
    → NoneHears rows channel (map Receiver ports ++ Clock ∷ clients_from 0 clients)
none_after rows channel [] clients late =
    let above = late.0 in (other_number rows.poke_in channel (λ e. omega (arith, e, above)), no_clients rows channel 0 clients)
none_after rows channel (port ∷ ports) clients late =
    let above = late.0 in (other_number port.in_channel channel (λ e. omega (arith, e, above)), none_after rows channel ports clients late.1)

one_hears : (rows : HostRows) (channel : ℕ) (ports : List HostPort) (clients : List ClientRow) → EachPair (λ (a b : ℕ). a < b) (map channel_of ports ++ rows.poke_in ∷ [])
    → OneHears rows channel (map Receiver ports ++ Clock ∷ clients_from 0 clients)
one_hears rows channel [] clients rising = inr (no_clients rows channel 0 clients)
one_hears rows channel (port ∷ ports) clients rising = hears_case (nat_eq port.in_channel channel) refl (one_hears rows channel ports clients rising.1)
  where
    hears_case : (b : Bool) → nat_eq port.in_channel channel ≡ b → OneHears rows channel (map Receiver ports ++ Clock ∷ clients_from 0 clients)
        → ((nat_eq port.in_channel channel ≡ false) × OneHears rows channel (map Receiver ports ++ Clock ∷ clients_from 0 clients)) ⊎ NoneHears rows channel (map Receiver ports ++ Clock ∷ clients_from 0 clients)
    hears_case true e rest =
        let same = eqb-true port.in_channel channel e in
        inr (none_after rows channel ports clients (subst (λ (n : ℕ). Each (λ b. n < b) (map channel_of ports ++ rows.poke_in ∷ [])) same rising.0))
    hears_case false e rest = inl (e, rest)

not_woken : (channel i : ℕ) (payload : PacketFields) (p : Process) → waits_on p.wait channel ≡ false → wake_of (Message channel payload) i p ≡ None
not_woken channel i payload p e = ap (λ (b : Bool). cond {A = Option (Wake PacketFields)} b (Some (MessageWake channel payload)) None) e

none_woken : (rows : HostRows) (channel i : ℕ) (payload : PacketFields) (processes : List Role) (ps : List Process) → AreWaits rows processes (map wait_of ps) → NoneHears rows channel processes
    → NoneWoken (Message channel payload) i ps
none_woken rows channel i payload [] [] are none = tt
none_woken rows channel i payload [] (p ∷ ps) are none = absurd are
none_woken rows channel i payload (role ∷ others) [] are none = absurd are
none_woken rows channel i payload (role ∷ others) (p ∷ ps) are none =
    (not_woken channel i payload p (deaf rows channel role p.wait are.0 none.0), none_woken rows channel (i + 1) payload others ps are.1 none.1)

one_woken : (rows : HostRows) (channel i : ℕ) (payload : PacketFields) (processes : List Role) (ps : List Process) → AreWaits rows processes (map wait_of ps) → OneHears rows channel processes
    → OneWoken (Message channel payload) i ps
one_woken rows channel i payload [] [] are one = tt
one_woken rows channel i payload [] (p ∷ ps) are one = absurd are
one_woken rows channel i payload (role ∷ others) [] are one = absurd are
one_woken rows channel i payload (role ∷ others) (p ∷ ps) are (inl k) =
    inl (not_woken channel i payload p (deaf rows channel role p.wait are.0 k.0), one_woken rows channel (i + 1) payload others ps are.1 k.1)
one_woken rows channel i payload (role ∷ others) (p ∷ ps) are (inr none) = inr (none_woken rows channel (i + 1) payload others ps are.1 none)

-- What wakes a process carries what messages carry.
timer_carries : (b : Bool) (wake : Wake PacketFields) → cond {A = Option (Wake PacketFields)} b (Some TimerWake) None ≡ Some wake → Carries IsPacket wake
timer_carries true wake e = let same : TimerWake ≡ wake = cc in subst (λ (w : Wake PacketFields). Carries IsPacket w) same tt
timer_carries false wake e = absurd (cc)

message_carries : (b : Bool) (channel : ℕ) (payload : PacketFields) (wake : Wake PacketFields) → cond {A = Option (Wake PacketFields)} b (Some (MessageWake channel payload)) None ≡ Some wake
    → IsPacket payload → Carries IsPacket wake
message_carries true channel payload wake e is = let same : MessageWake channel payload ≡ wake = cc in subst (λ (w : Wake PacketFields). Carries IsPacket w) same is
message_carries false channel payload wake e is = absurd (cc)

few_on : (s : HostFields) (ins outs : List ℕ) (timed : List Bool) (waits : List Wait) (i now c : ℕ) (wake : Wake PacketFields) → IsHost s ins outs timed waits
    → Carries IsPacket wake → now ≤ LatestTime → on_channel c (host_reaction s i now wake).writes ≤ MostWrites
few_on s ins outs timed waits i now c wake valid carried early =
    let few = few_writes s ins outs timed waits i now wake valid carried early in
    omega (arith, few, count_by-le-length (is_write_on c) (host_reaction s i now wake).writes)

modest_at : (s : HostFields) (ins outs : List ℕ) (timed : List Bool) (ps : List Process) (now : ℕ) (kind : Kind PacketFields) (c : ℕ) → IsHost s ins outs timed (map wait_of ps) → now ≤ LatestTime
    → IsCarried IsPacket kind → on_channel c (delivered host_reaction now kind 0 s ps).writes ≤ MostWrites
modest_at s ins outs timed ps now Begin c valid early carried = let none = all_begin now c 0 s ps in omega (arith, none)
modest_at s ins outs timed ps now (Timer process ticket) c valid early carried =
    one_writes now c (Timer process ticket) s
    (λ i p wake e. few_on s ins outs timed (map wait_of ps) i now c wake valid (timer_carries (nat_eq process i && nat_eq ticket p.ticket) wake e) early)
    0 ps (one_named process ticket 0 ps)
modest_at s ins outs timed ps now (Message channel payload) c valid early carried =
    let placed = valid.placed in
    let rising : EachPair (λ (a b : ℕ). a < b) (map channel_of s.rows.ports ++ s.rows.poke_in ∷ []) = subst (λ (xs : List ℕ). EachPair (λ (a b : ℕ). a < b) xs) placed.in_channels placed.rising in
    one_writes now c (Message channel payload) s
    (λ i p wake e. few_on s ins outs timed (map wait_of ps) i now c wake valid (message_carries (waits_on p.wait channel) channel payload wake e carried) early)
    0 ps (one_woken s.rows channel 0 payload (roles s.rows) ps placed.waits_are (one_hears s.rows channel s.rows.ports s.rows.clients rising))

-- the law on one event
pub host_modest : IsModest IsHost IsPacket host_reaction
host_modest s ins outs ps now kind valid early timely carried c = modest_at s ins outs _ ps now kind c valid early carried
