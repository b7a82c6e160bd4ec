-- What a host does at a packet that comes, and at a deadline.
use Rattle.std.specs.Prelude.{ℕ, ◌+◌, ◌-◌, Bool, ◌&&◌, nat_eq, nat_lt, List, [], ◌∷◌, ◌++◌, Option, Some, None, is_none, slice_get, if◌then◌else◌}
use Rattle.std.specs.List.{list_any, count_by}
use Rattle.std.specs.Option.{unwrap_or}
use Rattle.sim_base.specs.declared.records.ClientRow.{ClientRow}
use Rattle.sim_base.specs.declared.records.ServerRow.{ServerRow}
use Rattle.sim_base.specs.declared.records.Reason.TheVariants.{Port}
use Rattle.sim_base.specs.SegmentFields.{SegmentFields}
use Rattle.spf_routes.specs.declared.graph.Route.{Route}
use Rattle.ssf_model.specs.declared.event.Line.TheVariants.{Udp}
use Rattle.ip_layer.specs.Packets.{PacketFields}
use Rattle.ip_layer.specs.Forwarding.{passed_on, received}
use Rattle.ip_layer.specs.declared.verdict.Verdict.{Verdict}
use Rattle.ip_layer.specs.declared.verdict.Verdict.TheVariants.{Local}
use Rattle.tcp_rules.specs.Segments.{Turn}
use Rattle.tcp_rules.specs.Sessions.{End, connecting, accepting, at_segment, at_timeout, state_of}
use Rattle.traffic.specs.Progress.{next_server, after_next}
use Rattle.host_rules.specs.declared.rows.HostRows.{HostRows}
use Rattle.host_rules.specs.Hosts.{Sockets, EntryFields, Stack}
use Rattle.host_rules.specs.Effects.{Effect, quiet, telling, and_then, dropped}
use Rattle.host_rules.specs.Sending.{routes_at, own_addresses, second_of, by_verdict, source_to, all_done}
use Rattle.host_rules.specs.Entries.{found, numbered, is_accepted, is_due, settled, ends}

-- A session more, which has the next number.
abbrev pub entry_of : Sockets → Option ℕ → End → Stack → EntryFields
entry_of sockets client session stack = record { number = stack.made; sockets = sockets; client = client; session = session }

abbrev pub with_entry : Sockets → Option ℕ → End → Stack → Stack
with_entry sockets client session stack =
    record stack { sessions = stack.sessions ++ entry_of sockets client session stack ∷ []; made = stack.made + 1 }

-- Transfers.
-- the address of a server is that of its interface
abbrev pub server_address : HostRows → ServerRow → ℕ
server_address rows server = unwrap_or (second_of rows.addresses server.interface) 0

-- the own port of a transfer is 10000 plus the number of those that the host opened before
unfoldable pub transfer_sockets : HostRows → (now : ℕ) → ServerRow → Stack → Sockets
transfer_sockets rows now server stack =
    let peer = server_address rows server in
    record { own = source_to rows stack now peer; own_port = 10000 + stack.opened; peer = peer; peer_port = server.port }

-- the transfer of a client session is opened, and the session was given one server more
abbrev pub with_transfer : Sockets → (client : ℕ) → End → Stack → Stack
with_transfer sockets client session stack =
    record (with_entry sockets (Some client) session stack) { apps = after_next stack.apps client; opened = stack.opened + 1 }

abbrev pub opening : HostRows → (now client : ℕ) → ClientRow → ServerRow → Stack → Effect
opening rows now client row server stack =
    let sockets = transfer_sockets rows now server stack in
    let turn = connecting rows.tcp row.file now in
    all_done rows now sockets turn.acts (with_transfer sockets client turn.after stack)

abbrev pub opening_to : HostRows → (now client : ℕ) → Option ClientRow → Option ServerRow → Stack → Effect
opening_to rows now client None server stack = quiet stack
opening_to rows now client (Some row) None stack = quiet stack
opening_to rows now client (Some row) (Some server) stack = opening rows now client row server stack

-- a client session opens a transfer to its next server, where there is one
unfoldable pub next_transfer : HostRows → (now client : ℕ) → Stack → Effect
next_transfer rows now client stack = opening_to rows now client (slice_get rows.clients client) (next_server stack.apps client) stack

-- one that was accepted is followed by none
abbrev pub next_of : HostRows → (now : ℕ) → Option ℕ → Stack → Effect
next_of rows now None stack = quiet stack
next_of rows now (Some client) stack = next_transfer rows now client stack

-- Sessions.
-- a transfer that enters TIME_WAIT, or CLOSED without having been in TIME_WAIT, is followed by the next one
unfoldable pub next_after : HostRows → (now : ℕ) → EntryFields → End → Stack → Effect
next_after rows now x session stack = if ends (state_of x.session) (state_of session) then next_of rows now x.client stack else quiet stack

-- a session's turn: what it keeps afterwards, all that it did, and the next transfer
unfoldable pub turned : HostRows → (now : ℕ) → EntryFields → Turn End → Stack → Effect
turned rows now x turn stack =
    and_then (all_done rows now x.sockets turn.acts (record stack { sessions = settled x.number turn.after stack.sessions }))
    (next_after rows now x turn.after)

-- Packets for the host.
abbrev pub listens_on : HostRows → ℕ → Bool
listens_on rows port = list_any (λ listening. nat_eq listening port) rows.listens

-- one of UDP is delivered where a server has its port
unfoldable pub udp_arrived : HostRows → PacketFields → Stack → Effect
udp_arrived rows packet stack =
    if listens_on rows packet.dst_port then telling (Udp packet.dst_port (packet.bytes - 28)) stack else dropped Port packet stack

-- the most accepted sessions of a host at one time
abbrev pub MostAccepted : ℕ
MostAccepted = 1000000

-- a SYN without ACK to a server's port is accepted while the host holds fewer
unfoldable pub may_accept : HostRows → PacketFields → SegmentFields → Stack → Bool
may_accept rows packet segment stack =
    segment.syn && (is_none segment.ack && (listens_on rows packet.dst_port && nat_lt (count_by is_accepted stack.sessions) MostAccepted))

-- the ends of the session to which a packet goes
abbrev pub sockets_of : PacketFields → Sockets
sockets_of packet = record { own = packet.dst; own_port = packet.dst_port; peer = packet.src; peer_port = packet.src_port }

abbrev pub opened_by : HostRows → (now : ℕ) → Sockets → SegmentFields → Stack → Effect
opened_by rows now sockets segment stack =
    let turn = accepting rows.tcp segment now in all_done rows now sockets turn.acts (with_entry sockets None turn.after stack)

-- one of TCP goes to its session, the first one where there are two; without one it may open a session
abbrev pub tcp_arrived_at : HostRows → (now : ℕ) → PacketFields → SegmentFields → Option EntryFields → Stack → Effect
tcp_arrived_at rows now packet segment (Some x) stack = turned rows now x (at_segment x.session segment now) stack
tcp_arrived_at rows now packet segment None stack =
    if may_accept rows packet segment stack then opened_by rows now (sockets_of packet) segment stack else dropped Port packet stack

unfoldable pub tcp_arrived : HostRows → (now : ℕ) → PacketFields → SegmentFields → Stack → Effect
tcp_arrived rows now packet segment stack = tcp_arrived_at rows now packet segment (found (sockets_of packet) stack.sessions) stack

abbrev pub at_home : HostRows → (now : ℕ) → PacketFields → Option SegmentFields → Stack → Effect
at_home rows now packet None stack = udp_arrived rows packet stack
at_home rows now packet (Some segment) stack = tcp_arrived rows now packet segment stack

-- what becomes of a packet that came, by the verdict of IP: one that is not for the host goes on with a lower time to live
abbrev pub at_verdict : HostRows → List Route → (now : ℕ) → PacketFields → Verdict → Stack → Effect
at_verdict rows routes now packet Local stack = at_home rows now packet packet.segment stack
at_verdict rows routes now packet verdict stack = by_verdict rows routes now (passed_on packet) verdict stack

unfoldable pub arrived : HostRows → (now : ℕ) → PacketFields → Stack → Effect
arrived rows now packet stack =
    let routes = routes_at rows stack now in at_verdict rows routes now packet (received (own_addresses rows) routes packet) stack

-- Deadlines.
abbrev pub timed_out_at : HostRows → (now : ℕ) → Option EntryFields → Stack → Effect
timed_out_at rows now None stack = quiet stack
timed_out_at rows now (Some x) stack = if is_due now x then turned rows now x (at_timeout x.session now) stack else quiet stack

-- where the deadline of the session of this number has passed
unfoldable pub timed_out : HostRows → (now number : ℕ) → Stack → Effect
timed_out rows now number stack = timed_out_at rows now (numbered number stack.sessions) stack

-- and of those of all these numbers, one after another
abbrev pub all_timed_out : HostRows → (now : ℕ) → List ℕ → Stack → Effect
all_timed_out rows now [] stack = quiet stack
all_timed_out rows now (number ∷ numbers) stack = and_then (timed_out rows now number stack) (all_timed_out rows now numbers)
