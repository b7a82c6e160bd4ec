-- The processes of a host: a receiver for each interface, the clock of its TCP sessions, and one for each client session.
use Rattle.std.specs.Prelude.{ℕ, ◌+◌, ◌-◌, ◌^◌, Bool, true, false, ◌&&◌, nat_eq, nat_lt, max, min, List, [], ◌∷◌, ◌++◌, Option, Some, None, map, slice_get, slice_set, slice_index, if◌then◌else◌}
use Rattle.sim_base.specs.declared.records.ClientRow.{ClientRow}
use Rattle.sim_base.specs.declared.records.ServerRow.{ServerRow}
use Rattle.ssf_model.specs.declared.wait.Wait.{Wait}
use Rattle.ssf_model.specs.declared.wait.Wait.TheVariants.{On, For, OnFor, Forever}
use Rattle.ssf_model.specs.declared.wait.Wake.{Wake}
use Rattle.ssf_model.specs.declared.wait.Wake.TheVariants.{Begin, Timer, Message}
use Rattle.ssf_model.specs.declared.out.Written.TheVariants.{Channel}
use Rattle.ssf_model.specs.Reaction.{Outcome, Reaction}
use Rattle.ip_layer.specs.Packets.{PacketFields}
use Rattle.traffic.specs.Progress.{next_server, after_next}
use Rattle.host_rules.specs.declared.rows.HostRows.{HostRows}
use Rattle.host_rules.specs.declared.rows.HostPort.{HostPort}
use Rattle.host_rules.specs.Hosts.{Stack, HostFields}
use Rattle.host_rules.specs.Effects.{Effect, quiet, and_then}
use Rattle.host_rules.specs.Sending.{sending, source_to}
use Rattle.host_rules.specs.Entries.{due, least}
use Rattle.host_rules.specs.Hearing.{server_address, next_transfer, arrived, all_timed_out}

-- The processes in their order: this is the one place that lists them.
pub data Role : Type 0 where
  Receiver : (port : HostPort) → Role
  Clock : Role
  Client : (client : ℕ) → (row : ClientRow) → Role

abbrev pub clients_from : ℕ → List ClientRow → List Role
clients_from client [] = []
clients_from client (row ∷ rows) = Client client row ∷ clients_from (client + 1) rows

abbrev pub roles : HostRows → List Role
roles rows = map Receiver rows.ports ++ Clock ∷ clients_from 0 rows.clients

-- receivers are not timed
abbrev pub is_timed_role : Role → Bool
is_timed_role (Receiver port) = false
is_timed_role Clock = true
is_timed_role (Client client row) = true

-- what a process does, and what it waits for
pub record Reply : Type 0 where
  pub effect : Effect
  pub wait : Wait

abbrev pub reply : Effect → Wait → Reply
reply effect wait = record { effect = effect; wait = wait }

-- The poke: what a process writes to its own host where it changes the least deadline. It carries nothing.
abbrev pub blank_packet : PacketFields
blank_packet = record { src = 0; dst = 0; tcp = false; ttl = 64; src_port = 0; dst_port = 0; bytes = 28; segment = None }

abbrev pub is_same_tick : Option ℕ → Option ℕ → Bool
is_same_tick None None = true
is_same_tick None (Some b) = false
is_same_tick (Some a) None = false
is_same_tick (Some a) (Some b) = nat_eq a b

abbrev pub poke : HostRows → Stack → Effect
poke rows stack = record { stack = stack; writes = Channel rows.poke_out 0 blank_packet ∷ []; lines = [] }

abbrev pub poke_unless : Bool → HostRows → Stack → Effect
poke_unless true rows stack = quiet stack
poke_unless false rows stack = poke rows stack

-- an action that leaves the least deadline other than it was writes one poke, last
unfoldable pub with_poke : HostRows → Stack → Effect → Effect
with_poke rows before effect =
    and_then effect (poke_unless (is_same_tick (least before.sessions) (least effect.stack.sessions)) rows)

-- Receivers wait for packets on their in-channel.
abbrev pub receiver_wait : HostPort → Wait
receiver_wait port = On (port.in_channel ∷ [])

unfoldable pub heard : HostRows → (now : ℕ) → PacketFields → Stack → Effect
heard rows now packet stack = with_poke rows stack (arrived rows now packet stack)

abbrev pub receiver_reply : HostRows → HostPort → (now : ℕ) → Wake PacketFields → Stack → Reply
receiver_reply rows port now Begin stack = reply (quiet stack) (receiver_wait port)
receiver_reply rows port now Timer stack = reply (quiet stack) (receiver_wait port)
receiver_reply rows port now (Message channel packet) stack = reply (heard rows now packet stack) (receiver_wait port)

-- The clock waits to be poked, and for the least deadline where a session has one: for at least one tick, and at most 10^15.
abbrev pub wait_until : (channel now : ℕ) → Option ℕ → Wait
wait_until channel now None = On (channel ∷ [])
wait_until channel now (Some deadline) = OnFor (channel ∷ []) (max (min (deadline - now) (10 ^ 15)) 1)

unfoldable pub clock_wait : HostRows → (now : ℕ) → Stack → Wait
clock_wait rows now stack = wait_until rows.poke_in now (least stack.sessions)

-- at its timer it calls each session whose deadline has passed, in order of creation
unfoldable pub ticked : HostRows → (now : ℕ) → Stack → Effect
ticked rows now stack = all_timed_out rows now (due now stack.sessions) stack

abbrev pub clock_effect : HostRows → (now : ℕ) → Wake PacketFields → Stack → Effect
clock_effect rows now Begin stack = quiet stack
clock_effect rows now Timer stack = ticked rows now stack
clock_effect rows now (Message channel packet) stack = quiet stack

abbrev pub clock_reply : HostRows → (now : ℕ) → Wake PacketFields → Stack → Reply
clock_reply rows now wake stack =
    let effect = clock_effect rows now wake stack in reply effect (clock_wait rows now effect.stack)

-- Client sessions over UDP.
-- what is left of the file for the server that was given last
abbrev pub left_of : (client : ℕ) → Stack → ℕ
left_of client stack = slice_index stack.left client

abbrev pub with_left : (client bytes : ℕ) → Stack → Stack
with_left client bytes stack = record stack { left = slice_set stack.left client bytes }

abbrev pub refilled_by : (client file : ℕ) → Option ServerRow → Stack → Stack
refilled_by client file None stack = stack
refilled_by client file (Some server) stack = record (with_left client file stack) { apps = after_next stack.apps client }

-- where nothing is left the next server follows, if there is one; an empty file is sent to none
unfoldable pub refilled : (client file : ℕ) → Stack → Stack
refilled client file stack =
    if nat_eq (left_of client stack) 0 && nat_lt 0 file then refilled_by client file (next_server stack.apps client) stack else stack

-- a datagram opens no transfer, and its source port is 0
abbrev pub datagram : HostRows → (now bytes : ℕ) → ServerRow → Stack → PacketFields
datagram rows now bytes server stack =
    let peer = server_address rows server in
    record {
      src = source_to rows stack now peer;
      dst = peer;
      tcp = false;
      ttl = 64;
      src_port = 0;
      dst_port = server.port;
      bytes = 28 + bytes;
      segment = None;
    }

-- the server that was given last
abbrev pub present_server : (client : ℕ) → Stack → Option ServerRow
present_server client stack = slice_get stack.apps.servers (slice_index stack.apps.given client - 1)

abbrev pub datagram_to : HostRows → (now client bytes : ℕ) → Option ServerRow → Stack → Effect
datagram_to rows now client bytes None stack = quiet stack
datagram_to rows now client bytes (Some server) stack = sending rows now (datagram rows now bytes server stack) (with_left client (left_of client stack - bytes) stack)

-- one datagram, of no more than is left
unfoldable pub datagram_sent : HostRows → (now client : ℕ) → ClientRow → Stack → Effect
datagram_sent rows now client row stack =
    if nat_eq (left_of client stack) 0 then quiet stack
    else datagram_to rows now client (min row.datagram (left_of client stack)) (present_server client stack) stack

abbrev pub udp_turn : HostRows → (now client : ℕ) → ClientRow → Stack → Effect
udp_turn rows now client row stack =
    and_then (datagram_sent rows now client row (refilled client row.file stack)) (λ after. quiet (refilled client row.file after))

-- while anything is left the process waits for the next datagram
abbrev pub udp_wait : (client : ℕ) → ClientRow → Stack → Wait
udp_wait client row stack = if nat_eq (left_of client stack) 0 then Forever else For row.interval

-- A client session waits for its start, and forever where no server is meant for it.
abbrev pub start_wait : List ServerRow → ℕ → Wait
start_wait [] start = Forever
start_wait (server ∷ servers) start = For start

-- one over TCP opens its first transfer then, and waits for nothing more
unfoldable pub tcp_turn : HostRows → (now client : ℕ) → Stack → Effect
tcp_turn rows now client stack = with_poke rows stack (next_transfer rows now client stack)

unfoldable pub udp_sent : HostRows → (now client : ℕ) → ClientRow → Stack → Effect
udp_sent rows now client row stack = with_poke rows stack (udp_turn rows now client row stack)

abbrev pub client_turn : Bool → HostRows → (now client : ℕ) → ClientRow → Stack → Reply
client_turn true rows now client row stack = reply (tcp_turn rows now client stack) Forever
client_turn false rows now client row stack =
    let effect = udp_sent rows now client row stack in reply effect (udp_wait client row effect.stack)

abbrev pub client_reply : HostRows → (start client : ℕ) → ClientRow → (now : ℕ) → Wake PacketFields → Stack → Reply
client_reply rows start client row now Begin stack = reply (quiet stack) (start_wait rows.servers start)
client_reply rows start client row now Timer stack = client_turn row.tcp rows now client row stack
client_reply rows start client row now (Message channel packet) stack = reply (quiet stack) Forever

-- All processes.
abbrev pub role_reply : HostFields → Role → (now : ℕ) → Wake PacketFields → Reply
role_reply s (Receiver port) now wake = receiver_reply s.rows port now wake s.stack
role_reply s Clock now wake = clock_reply s.rows now wake s.stack
role_reply s (Client client row) now wake = client_reply s.rows (slice_index s.starts client) client row now wake s.stack

abbrev pub reply_of : HostFields → Option Role → (now : ℕ) → Wake PacketFields → Reply
reply_of s None now wake = reply (quiet s.stack) Forever
reply_of s (Some role) now wake = role_reply s role now wake

abbrev pub outcome : HostFields → Reply → Outcome HostFields PacketFields
outcome s r = record { state = record s { stack = r.effect.stack }; wait = r.wait; writes = r.effect.writes; lines = r.effect.lines }

unfoldable pub host_reaction : Reaction HostFields PacketFields
host_reaction s i now wake = outcome s (reply_of s (slice_get (roles s.rows) i) now wake)
