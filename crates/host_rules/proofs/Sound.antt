-- A valid host stays valid, writes and waits on its entity's channels, and writes little at one action.
use Rattle.std.proofs.Common.{◌≡◌, ℕ, zero, suc, ◌+◌, ◌<◌, ◌≤◌, Bool, true, false, Option, Some, None, List, [], ◌∷◌, ◌++◌, length, map, nat_eq, refl, ap, subst, sym, inl, inr, arith}
use Rattle.std.specs.Prelude.{slice_get, slice_set, slice_index, option_map}
use Rattle.std.proofs.lemmas.Option.{slice_get-map}
use Rattle.event_order.specs.Pending.{Among}
use Rattle.sim_base.specs.declared.records.ClientRow.{ClientRow}
use Rattle.sim_base.specs.declared.records.ServerRow.{ServerRow}
use Rattle.ssf_model.specs.declared.wait.Wait.{Wait}
use Rattle.ssf_model.specs.declared.wait.Wake.{Wake}
use Rattle.ssf_model.specs.declared.wait.Wake.TheVariants.{Begin, Timer, Message}
use Rattle.ssf_model.specs.Wake.{HasTimer}
use Rattle.ssf_model.specs.Reaction.{Each, LatestTime, LongestDelay, Carries, IsOwnWait, IsOwnWrite, Keeps, KeepsValid}
use Rattle.ssf_model.specs.Deliver.{MostWrites}
use Rattle.ssf_model.specs.declared.out.Written.{Written}
use Rattle.ssf_model.specs.declared.out.Written.TheVariants.{Channel, Timer as TimerWrite}
use Rattle.ip_layer.specs.Packets.{PacketFields, IsPacket}
use Rattle.ip_layer.specs.Forwarding.{passed_on}
use Rattle.host_rules.specs.declared.rows.HostRows.{HostRows}
use Rattle.host_rules.specs.declared.rows.HostPort.{HostPort}
use Rattle.host_rules.specs.Hosts.{Stack, HostFields}
use Rattle.host_rules.specs.Effects.{quiet}
use Rattle.host_rules.specs.Entries.{least}
use Rattle.host_rules.specs.Reacting.{Role, Receiver, Clock, Client, clients_from, roles, is_timed_role, Reply, reply, heard, receiver_reply, wait_until, clock_wait, ticked, clock_effect, clock_reply, left_of, start_wait, tcp_turn, udp_sent, client_turn, client_reply, role_reply, reply_of, outcome, host_reaction}
use Rattle.host_rules.specs.Sources.{IsOwn, IsPassedOn, IsFrom, Brings}
use Rattle.host_rules.specs.Limits.{AreRows, IsTimedClient, IsWaitOf, AreWaits, HasOuts, IsStack, IsHost}
use Rattle.host_rules.proofs.Listing.{if_case, each_append, each_more, each_map, each_at}
use Rattle.host_rules.proofs.Lawful.{IsLawful, lawful_quiet, lawful_more, passed_is}
use Rattle.host_rules.proofs.Turns.{ticked_lawful, heard_lawful, tcp_turn_lawful, udp_sent_lawful}

-- Processes: a receiver's in-channel and the clock's are among the entity's, and a client session is one of the rows.
abbrev IsRole : HostRows → List ℕ → Role → Type 0
IsRole rows ins (Receiver port) = Among port.in_channel ins
IsRole rows ins Clock = Among rows.poke_in ins
IsRole rows ins (Client client row) = (client < length rows.clients) × IsTimedClient row

abbrev channel_of : HostPort → ℕ
channel_of port = port.in_channel

ins_have : (ports : List HostPort) (rest : List ℕ) → Each (λ (port : HostPort). Among port.in_channel (map channel_of ports ++ rest)) ports
ins_have [] rest = tt
ins_have (port ∷ ports) rest =
    (inl refl, each_more (λ (p : HostPort). Among p.in_channel (map channel_of ports ++ rest)) (λ (p : HostPort). Among p.in_channel (port.in_channel ∷ map channel_of ports ++ rest)) ports (λ p among. inr among) (ins_have ports rest))

last_among : (xs : List ℕ) (x : ℕ) → Among x (xs ++ x ∷ [])
last_among [] x = inl refl
last_among (y ∷ ys) x = inr (last_among ys x)

clients_are : (rows : HostRows) (ins : List ℕ) (n : ℕ) (clients : List ClientRow) → n + length clients ≤ length rows.clients → Each IsTimedClient clients → Each (IsRole rows ins) (clients_from n clients)
clients_are rows ins n [] few timed = tt
clients_are rows ins n (row ∷ others) few timed = ((omega (arith, few), timed.0), clients_are rows ins (n + 1) others (omega (arith, few)) timed.1)

roles_are : (rows : HostRows) (ins : List ℕ) → AreRows rows → ins ≡ map channel_of rows.ports ++ rows.poke_in ∷ [] → Each (IsRole rows ins) (roles rows)
roles_are rows ins ranges e =
    subst (λ (xs : List ℕ). Each (IsRole rows xs) (roles rows)) (sym e)
    (let all = map channel_of rows.ports ++ rows.poke_in ∷ [] in
    each_append (IsRole rows all) (map Receiver rows.ports) (Clock ∷ clients_from 0 rows.clients)
    (each_map (λ (port : HostPort). Among port.in_channel all) (IsRole rows all) Receiver rows.ports (λ port among. among) (ins_have rows.ports (rows.poke_in ∷ [])))
    (last_among (map channel_of rows.ports) rows.poke_in, clients_are rows all 0 rows.clients (omega arith) ranges.clients))

-- Waits.
waits_set : (rows : HostRows) (processes : List Role) (waits : List Wait) (i : ℕ) (role : Role) (wait : Wait) → AreWaits rows processes waits → slice_get processes i ≡ Some role
    → IsWaitOf rows role wait → AreWaits rows processes (slice_set waits i wait)
waits_set rows [] [] i role wait are e is = absurd (cc)
waits_set rows [] (w ∷ ws) i role wait are e is = absurd are
waits_set rows (r ∷ rs) [] i role wait are e is = absurd are
waits_set rows (r ∷ rs) (w ∷ ws) zero role wait are e is = let same : role ≡ r = cc in (subst (λ (q : Role). IsWaitOf rows q wait) same is, are.1)
waits_set rows (r ∷ rs) (w ∷ ws) (suc i) role wait are e is = (are.0, waits_set rows rs ws i role wait are.1 e is)

waits_within : (rows : HostRows) (processes : List Role) (waits : List Wait) (i : ℕ) (wait : Wait) → AreWaits rows processes waits → slice_get waits i ≡ Some wait → slice_get processes i ≡ None → ⊥
waits_within rows [] [] i wait are e f = cc
waits_within rows [] (w ∷ ws) i wait are e f = are
waits_within rows (r ∷ rs) [] i wait are e f = are
waits_within rows (r ∷ rs) (w ∷ ws) zero wait are e f = cc
waits_within rows (r ∷ rs) (w ∷ ws) (suc i) wait are e f = waits_within rows rs ws i wait are.1 e f

index_most : (most : ℕ) (xs : List ℕ) (k : ℕ) → Each (λ x. x ≤ most) xs → slice_index xs k ≤ most
index_most most [] k are = omega arith
index_most most (x ∷ xs) zero are = are.0
index_most most (x ∷ xs) (suc k) are = index_most most xs k are.1

-- What a write carries: a packet in range, which is the host's own or passed on.
abbrev IsWritten : HostRows → Wake PacketFields → PacketFields → Type 0
IsWritten rows wake packet = IsPacket packet × IsFrom rows wake packet

-- What a process answers.
record IsReply (rows : HostRows) (came : Wake PacketFields) (ins outs : List ℕ) (role : Role) (r : Reply) : Type 0 where
  effect : IsLawful rows (IsWritten rows came) outs MostWrites r.effect
  wait : IsWaitOf rows role r.wait
  own : IsOwnWait ins r.wait
  untimed : is_timed_role role ≡ false → HasTimer r.wait → ⊥

wait_is : (rows : HostRows) (deadline : Option ℕ) (now : ℕ) → IsWaitOf rows Clock (wait_until rows.poke_in now deadline)
wait_is rows None now = refl
wait_is rows (Some d) now = refl

wait_own : (ins : List ℕ) (channel now : ℕ) (deadline : Option ℕ) → Among channel ins → IsOwnWait ins (wait_until channel now deadline)
wait_own ins channel now None among = (among, tt)
wait_own ins channel now (Some d) among = ((among, tt), omega arith)

passed_on_came : (came wake : Wake PacketFields) (packet : PacketFields) → came ≡ wake → IsPassedOn wake packet → IsPassedOn came packet
passed_on_came came wake packet same is = subst (λ (w : Wake PacketFields). IsPassedOn w packet) (sym same) is

module _ (rows : HostRows) (came : Wake PacketFields) (ins outs : List ℕ) (ranges : AreRows rows) (ways : Each (HasOuts outs) rows.ports) (poke : Among rows.poke_out outs) where
  own_is : (packet : PacketFields) → IsPacket packet → IsOwn rows packet → IsWritten rows came packet
  own_is packet is own = (is, inl own)

  quiet_is : (s : Stack) → IsStack rows s → IsLawful rows (IsWritten rows came) outs MostWrites (quiet s)
  quiet_is s is = lawful_quiet rows (IsWritten rows came) outs MostWrites s is

  receiver_is : (port : HostPort) (now : ℕ) (wake : Wake PacketFields) (s : Stack) → came ≡ wake → Among port.in_channel ins → Carries IsPacket wake → now ≤ LatestTime → IsStack rows s
      → IsReply rows came ins outs (Receiver port) (receiver_reply rows port now wake s)
  receiver_is port now Begin s same among carried early is = record { effect = quiet_is s is; wait = refl; own = (among, tt); untimed = λ e h. cc }
  receiver_is port now Timer s same among carried early is = record { effect = quiet_is s is; wait = refl; own = (among, tt); untimed = λ e h. cc }
  receiver_is port now (Message channel packet) s same among carried early is = record {
    effect = lawful_more rows (IsWritten rows came) outs 65540 MostWrites (heard rows now packet s) (omega arith) (heard_lawful rows (IsWritten rows came) outs ranges ways own_is now packet s poke carried (passed_is packet carried, inr (passed_on_came came (Message channel packet) (passed_on packet) same refl)) early is);
    wait = refl;
    own = (among, tt);
    untimed = λ e h. cc;
  }

  clock_effect_is : (now : ℕ) (wake : Wake PacketFields) (s : Stack) → now ≤ LatestTime → IsStack rows s → IsLawful rows (IsWritten rows came) outs MostWrites (clock_effect rows now wake s)
  clock_effect_is now Begin s early is = quiet_is s is
  clock_effect_is now Timer s early is = lawful_more rows (IsWritten rows came) outs 2100000 MostWrites (ticked rows now s) (omega arith) (ticked_lawful rows (IsWritten rows came) outs ranges ways own_is now s early is)
  clock_effect_is now (Message channel packet) s early is = quiet_is s is

  clock_is : (now : ℕ) (wake : Wake PacketFields) (s : Stack) → Among rows.poke_in ins → now ≤ LatestTime → IsStack rows s → IsReply rows came ins outs Clock (clock_reply rows now wake s)
  unfolding clock_wait
  clock_is now wake s among early is =
      let after = (clock_effect rows now wake s).stack in
      record {
        effect = clock_effect_is now wake s early is;
        wait = wait_is rows (least after.sessions) now;
        own = wait_own ins rows.poke_in now (least after.sessions) among;
        untimed = λ e h. absurd (cc);
      }

  start_is : (servers : List ServerRow) (start client : ℕ) (row : ClientRow) (s : Stack) → start ≤ LongestDelay → IsStack rows s → IsReply rows came ins outs (Client client row) (reply (quiet s) (start_wait servers start))
  start_is [] start client row s short is = record { effect = quiet_is s is; wait = tt; own = tt; untimed = λ e h. absurd (cc) }
  start_is (server ∷ servers) start client row s short is = record { effect = quiet_is s is; wait = tt; own = short; untimed = λ e h. absurd (cc) }

  turn_is : (tcp : Bool) (now client : ℕ) (row : ClientRow) (s : Stack) → client < length rows.clients → IsTimedClient row → now ≤ LatestTime → IsStack rows s
      → IsReply rows came ins outs (Client client row) (client_turn tcp rows now client row s)
  turn_is true now client row s below timed early is = record {
    effect = lawful_more rows (IsWritten rows came) outs 2 MostWrites (tcp_turn rows now client s) (omega arith) (tcp_turn_lawful rows (IsWritten rows came) outs ranges ways own_is now client s poke below early is);
    wait = tt;
    own = tt;
    untimed = λ e h. absurd (cc);
  }
  turn_is false now client row s below timed early is =
      let effect = udp_sent rows now client row s in
      let empty = nat_eq (left_of client effect.stack) 0 in
      record {
        effect = lawful_more rows (IsWritten rows came) outs 2 MostWrites effect (omega arith) (udp_sent_lawful rows (IsWritten rows came) outs ranges ways own_is now client row s poke below early is);
        wait = if_case (λ (w : Wait). IsWaitOf rows (Client client row) w) empty (λ e. tt) (λ e. tt);
        own = if_case (λ (w : Wait). IsOwnWait ins w) empty (λ e. tt) (λ e. timed.interval);
        untimed = λ e h. absurd (cc);
      }

  client_is : (start client : ℕ) (row : ClientRow) (now : ℕ) (wake : Wake PacketFields) (s : Stack) → start ≤ LongestDelay → client < length rows.clients → IsTimedClient row → now ≤ LatestTime → IsStack rows s
      → IsReply rows came ins outs (Client client row) (client_reply rows start client row now wake s)
  client_is start client row now Begin s short below timed early is = start_is rows.servers start client row s short is
  client_is start client row now Timer s short below timed early is = turn_is row.tcp now client row s below timed early is
  client_is start client row now (Message channel packet) s short below timed early is = record { effect = quiet_is s is; wait = tt; own = tt; untimed = λ e h. absurd (cc) }

role_is : (s : HostFields) (ins outs : List ℕ) (role : Role) (now : ℕ) (wake : Wake PacketFields) → AreRows s.rows → Each (HasOuts outs) s.rows.ports → Among s.rows.poke_out outs
    → Each (λ start. start ≤ LongestDelay) s.starts → IsRole s.rows ins role → Carries IsPacket wake → now ≤ LatestTime → IsStack s.rows s.stack
    → IsReply s.rows wake ins outs role (role_reply s role now wake)
role_is s ins outs (Receiver port) now wake ranges ways poke starts is carried early stack = receiver_is s.rows wake ins outs ranges ways poke port now wake s.stack refl is carried early stack
role_is s ins outs Clock now wake ranges ways poke starts is carried early stack = clock_is s.rows wake ins outs ranges ways poke now wake s.stack is early stack
role_is s ins outs (Client client row) now wake ranges ways poke starts is carried early stack =
    client_is s.rows wake ins outs ranges ways poke (slice_index s.starts client) client row now wake s.stack (index_most LongestDelay s.starts client starts) is.0 is.1 early stack

reply_is : (s : HostFields) (ins outs : List ℕ) (timed : List Bool) (waits : List Wait) (i : ℕ) (role : Role) (now : ℕ) (wake : Wake PacketFields) → IsHost s ins outs timed waits
    → slice_get (roles s.rows) i ≡ Some role → Carries IsPacket wake → now ≤ LatestTime → IsReply s.rows wake ins outs role (role_reply s role now wake)
reply_is s ins outs timed waits i role now wake valid at carried early =
    let placed = valid.placed in
    role_is s ins outs role now wake valid.rows placed.ways placed.poke valid.starts
    (each_at (IsRole s.rows ins) (roles s.rows) i role (roles_are s.rows ins valid.rows placed.in_channels) at) carried early valid.stack

-- at one action a host writes few packets
few_of : (s : HostFields) (ins outs : List ℕ) (timed : List Bool) (waits : List Wait) (i : ℕ) (role : Option Role) (now : ℕ) (wake : Wake PacketFields) → IsHost s ins outs timed waits
    → slice_get (roles s.rows) i ≡ role → Carries IsPacket wake → now ≤ LatestTime → length (reply_of s role now wake).effect.writes ≤ MostWrites
few_of s ins outs timed waits i None now wake valid at carried early = omega arith
few_of s ins outs timed waits i (Some role) now wake valid at carried early = (reply_is s ins outs timed waits i role now wake valid at carried early).effect.few

pub few_writes : (s : HostFields) (ins outs : List ℕ) (timed : List Bool) (waits : List Wait) (i now : ℕ) (wake : Wake PacketFields) → IsHost s ins outs timed waits
    → Carries IsPacket wake → now ≤ LatestTime → length (host_reaction s i now wake).writes ≤ MostWrites
unfolding host_reaction
few_writes s ins outs timed waits i now wake valid carried early = few_of s ins outs timed waits i (slice_get (roles s.rows) i) now wake valid refl carried early

-- what holds of what the writes carry
as_own : (outs : List ℕ) (C : PacketFields → Type 0) → ((packet : PacketFields) → C packet → IsPacket packet) → (w : Written PacketFields) → IsOwnWrite C outs w → IsOwnWrite IsPacket outs w
as_own outs C f (Channel channel delay packet) is = (is.0, is.1, f packet is.2)
as_own outs C f (TimerWrite process delay ticket) is = is

as_from : (rows : HostRows) (outs : List ℕ) (wake : Wake PacketFields) (w : Written PacketFields) → IsOwnWrite (IsWritten rows wake) outs w → Brings (IsFrom rows wake) w
as_from rows outs wake (Channel channel delay packet) is = is.2.1
as_from rows outs wake (TimerWrite process delay ticket) is = is

from_of : (s : HostFields) (ins outs : List ℕ) (timed : List Bool) (waits : List Wait) (i : ℕ) (role : Option Role) (now : ℕ) (wake : Wake PacketFields) → IsHost s ins outs timed waits
    → slice_get (roles s.rows) i ≡ role → Carries IsPacket wake → now ≤ LatestTime → Each (Brings (IsFrom s.rows wake)) (reply_of s role now wake).effect.writes
from_of s ins outs timed waits i None now wake valid at carried early = tt
from_of s ins outs timed waits i (Some role) now wake valid at carried early =
    each_more (IsOwnWrite (IsWritten s.rows wake) outs) (Brings (IsFrom s.rows wake)) (role_reply s role now wake).effect.writes (as_from s.rows outs wake)
    (reply_is s ins outs timed waits i role now wake valid at carried early).effect.writes

-- what a host writes is its own, or passed on
pub writes_from : (s : HostFields) (ins outs : List ℕ) (timed : List Bool) (waits : List Wait) (i now : ℕ) (wake : Wake PacketFields) → IsHost s ins outs timed waits
    → Carries IsPacket wake → now ≤ LatestTime → Each (Brings (IsFrom s.rows wake)) (host_reaction s i now wake).writes
unfolding host_reaction
writes_from s ins outs timed waits i now wake valid carried early = from_of s ins outs timed waits i (slice_get (roles s.rows) i) now wake valid refl carried early

-- the law of every behaviour
timed_role : (processes : List Role) (timed : List Bool) (i : ℕ) (role : Role) → timed ≡ map is_timed_role processes → slice_get processes i ≡ Some role → slice_get timed i ≡ Some false → is_timed_role role ≡ false
timed_role processes timed i role e at untimed =
    let mapped = slice_get-map is_timed_role processes i in
    let here : option_map is_timed_role (slice_get processes i) ≡ Some (is_timed_role role) = ap (λ (o : Option Role). option_map is_timed_role o) at in
    let told : slice_get (map is_timed_role processes) i ≡ Some false = subst (λ (ts : List Bool). slice_get ts i ≡ Some false) e untimed in
    cc

keeps_with : (s : HostFields) (ins outs : List ℕ) (timed : List Bool) (waits : List Wait) (i : ℕ) (role : Option Role) (wait : Wait) (now : ℕ) (wake : Wake PacketFields) → IsHost s ins outs timed waits
    → slice_get waits i ≡ Some wait → slice_get (roles s.rows) i ≡ role → Carries IsPacket wake → now ≤ LatestTime
    → Keeps IsHost IsPacket ins outs timed waits i (outcome s (reply_of s role now wake))
keeps_with s ins outs timed waits i None wait now wake valid waiting at carried early =
    absurd (waits_within s.rows (roles s.rows) waits i wait valid.placed.waits_are waiting at)
keeps_with s ins outs timed waits i (Some role) wait now wake valid waiting at carried early =
    let answer = reply_is s ins outs timed waits i role now wake valid at carried early in
    let placed = valid.placed in
    record {
      stays = record {
        rows = valid.rows;
        placed = record {
          in_channels = placed.in_channels;
          rising = placed.rising;
          poke = placed.poke;
          ways = placed.ways;
          timed_is = placed.timed_is;
          waits_are = waits_set s.rows (roles s.rows) waits i role (role_reply s role now wake).wait placed.waits_are at answer.wait;
        };
        starts = valid.starts;
        stack = answer.effect.stack;
      };
      own_writes = each_more (IsOwnWrite (IsWritten s.rows wake) outs) (IsOwnWrite IsPacket outs) (role_reply s role now wake).effect.writes (as_own outs (IsWritten s.rows wake) (λ p is. is.0)) answer.effect.writes;
      own_wait = answer.own;
      untimed = λ e h. answer.untimed (timed_role (roles s.rows) timed i role placed.timed_is at e) h;
    }

pub host_sound : KeepsValid IsHost IsPacket host_reaction
unfolding host_reaction
host_sound s i now wake ready =
    keeps_with s ready.ins ready.outs ready.timed ready.waits i (slice_get (roles s.rows) i) ready.wait now wake ready.is_valid ready.waiting refl ready.carries ready.time

-- no event changes the rows and the starts
pub rows_stay : (s : HostFields) (i now : ℕ) (wake : Wake PacketFields) → (host_reaction s i now wake).state.rows ≡ s.rows
unfolding host_reaction
rows_stay s i now wake = refl

pub starts_stay : (s : HostFields) (i now : ℕ) (wake : Wake PacketFields) → (host_reaction s i now wake).state.starts ≡ s.starts
unfolding host_reaction
starts_stay s i now wake = refl
