-- Worked runs of two small networks, computed from the definitions.
use Rattle.std.proofs.Common.{◌≡◌, ℕ, zero, suc, ◌+◌, ◌++◌, ◌*◌, Bool, true, false, List, [], ◌∷◌, map, Some, None, refl}
use Rattle.std.specs.List.{filter}
use Rattle.event_order.specs.Order.{comes_before}
use Rattle.event_order.specs.Machine.{World, after, all_kept}
use Rattle.sim_base.specs.declared.records.TcpConfig.{TcpConfig}
use Rattle.sim_base.specs.declared.records.TcpState.{TcpState}
use Rattle.sim_base.specs.declared.records.TcpState.TheVariants.{SynSent, SynReceived, Established, FinWait1, FinWait2, TimeWait, LastAck, Closed}
use Rattle.sim_base.specs.declared.records.Reason.TheVariants.{Route as NoRoute, Link, Buffer}
use Rattle.spf_routes.specs.declared.graph.Route.{Route}
use Rattle.spf_routes.specs.declared.graph.Period.{Period}
use Rattle.ssf_model.specs.declared.event.Entry.{Entry}
use Rattle.ssf_model.specs.declared.event.Line.{Line}
use Rattle.ssf_model.specs.declared.event.Line.TheVariants.{Sent, Dropped, Udp, Entered, Delivered}
use Rattle.ssf_model.specs.declared.plan.Plan.{Plan}
use Rattle.ssf_model.specs.declared.plan.Mapping.{Mapping}
use Rattle.ssf_model.specs.declared.builder.DraftEntity.{DraftEntity}
use Rattle.ssf_model.specs.declared.builder.OutChannel.{OutChannel}
use Rattle.ssf_model.specs.Drafts.{Draft, planned}
use Rattle.ssf_model.specs.Run.{States, machine_of, run_entries, entries_from, opening}
use Rattle.ssf_model.specs.declared.event.Event.{Event}
use Rattle.net_iface.specs.DropTail.{offered, after_offer}
use Rattle.ip_layer.specs.Packets.{PacketFields}
use Rattle.ip_layer.specs.Forwarding.{best_route, sent, received}
use Rattle.tcp_clock.specs.Retransmission.{first_timeout, sampled}
use Rattle.tcp_clock.specs.Congestion.{first_window, grown}
use Rattle.tcp_rules.specs.Clients.{opened, at_opening, at_syn_ack, sent as sent_out, data_stop, data_count, fin_sent, edge, measured, timing_at_send, deadline_at, at_later, at_plain, at_acknowledgment, at_ack, at_new_ack, at_last_fin, at_client_timeout}
use Rattle.tcp_rules.specs.Servers.{listened, at_start, at_data, kept_with, fin_with, added, at_kept, hole, at_end, at_last}
use Rattle.tcp_rules.specs.Sessions.{connecting, accepting}
use Rattle.traffic.specs.Progress.{at_first, next_server, after_next}
use Rattle.traffic.specs.Starts.{drawn_start}
use Rattle.host_rules.specs.declared.rows.HostRows.{HostRows}
use Rattle.host_rules.specs.declared.rows.HostPort.{HostPort}
use Rattle.ssf_model.specs.declared.out.Written.TheVariants.{Channel}
use Rattle.host_rules.specs.Hosts.{Stack, HostFields, first_stack, first_host, starts_of}
use Rattle.host_rules.specs.Effects.{Effect, and_then}
use Rattle.host_rules.specs.Sending.{routes_at, own_addresses, is_down, forwarded, sending, source_to}
use Rattle.host_rules.specs.Entries.{found, numbered, due, least, settled}
use Rattle.host_rules.specs.Hearing.{transfer_sockets, next_transfer, next_after, turned, udp_arrived, may_accept, tcp_arrived, arrived, timed_out}
use Rattle.host_rules.specs.Reacting.{with_poke, heard, clock_wait, ticked, refilled, datagram_sent, tcp_turn, udp_sent, host_reaction}

-- what shows of an entry: the time, the channel and the number of its key, its entity, and its lines
record Seen : Type 0 where
  time : ℕ
  channel : ℕ
  number : ℕ
  entity : ℕ
  lines : List Line

abbrev seen : Entry → Seen
seen e = record { time = e.key.time; channel = e.key.channel; number = e.key.number; entity = e.entity; lines = e.lines }

abbrev at : ℕ → ℕ → ℕ → ℕ → List Line → Seen
at time channel number entity lines = record { time = time; channel = channel; number = number; entity = entity; lines = lines }

-- the address 10.0.0.n
abbrev pub address : ℕ → ℕ
address n = 10 * 16777216 + n

abbrev a_route : (base bits interface next cost : ℕ) → Route
a_route base bits interface next cost = record { block = record { base = base; bits = bits }; interface = interface; next = next; cost = cost }

abbrev settings : ℕ → TcpConfig
settings iss = record { iss = iss; mss = 1000; receive = 32; send = 32; tries = 12; msl = 60000000000; frequency = 1000000000 }

abbrev a_port : (id in_channel n : ℕ) → List (ℕ × ℕ) → List (ℕ × ℕ) → HostPort
a_port id in_channel n outs downs = record {
  id = id;
  bitrate = 8000000;
  buffer = 1000000;
  address = Some (address n);
  in_channel = in_channel;
  outs = outs;
  downs = downs;
}

abbrev host : ℕ → List ℕ → List ℕ → List Bool → HostRows → DraftEntity HostFields
host number ins outs timed rows = record { state = first_host rows; timed = timed; in_channels = ins; out_channels = outs }

abbrev a_mapping : (out_channel in_channel from to delay : ℕ) → Mapping
a_mapping out_channel in_channel from to delay = record { channel = 0; out_channel = out_channel; in_channel = in_channel; from = from; to = to; delay = delay; priority = 0 }

abbrev out : (entity delay : ℕ) → OutChannel
out entity delay = record { entity = entity; delay = delay }

-- Two hosts on a link: 8,000,000 bit/s, a delay of a millisecond, and 10^9 ticks a second. The one sends a datagram of
-- 1,000 bytes to port 7 of the other.
abbrev sender_rows : List (ℕ × ℕ) → List Period → HostRows
sender_rows downs routes = record {
  number = 0;
  ports = a_port 0 0 1 ((address 2, 2) ∷ []) downs ∷ [];
  routes = routes;
  clients = record { tcp = false; start = 0; window = 0; file = 1000; datagram = 1000; interval = 10000000 } ∷ [];
  servers = record { client = 0; interface = 1; port = 7 } ∷ [];
  addresses = (1, address 2) ∷ [];
  listens = [];
  tcp = settings 0;
  poke_in = 1;
  poke_out = 0;
}

abbrev link_route : Route
link_route = a_route (address 0) 30 0 0 1

abbrev gateway : Route
gateway = a_route 0 0 0 (address 2) 0

abbrev period : ℕ → List Route → Period
period from routes = record { from = from; routes = routes }

abbrev receiver_rows : HostRows
receiver_rows = record {
  number = 1;
  ports = a_port 0 2 2 ((address 1, 3) ∷ []) [] ∷ [];
  routes = period 0 (link_route ∷ []) ∷ [];
  clients = [];
  servers = [];
  addresses = [];
  listens = 7 ∷ [];
  tcp = settings 0;
  poke_in = 3;
  poke_out = 1;
}

abbrev pair_draft : HostRows → Draft (Unit {0}) HostFields
pair_draft rows = record {
  behaviour = tt;
  entities = host 0 (0 ∷ 1 ∷ []) (0 ∷ 2 ∷ []) (false ∷ true ∷ true ∷ []) rows ∷ host 1 (2 ∷ 3 ∷ []) (1 ∷ 3 ∷ []) (false ∷ true ∷ []) receiver_rows ∷ [];
  in_owners = 0 ∷ 0 ∷ 1 ∷ 1 ∷ [];
  outs = out 0 0 ∷ out 1 0 ∷ out 0 0 ∷ out 1 0 ∷ [];
  mappings = a_mapping 0 1 0 0 0 ∷ a_mapping 1 3 1 1 0 ∷ a_mapping 2 2 0 1 1000000 ∷ a_mapping 3 0 1 0 1000000 ∷ [];
}

pair_run : HostRows → List Seen
pair_run rows = let plan : Plan (Unit {0}) HostFields PacketFields = planned (pair_draft rows) in map seen (run_entries host_reaction plan 3000000 all_kept 6)

a_datagram_is_delivered : pair_run (sender_rows [] (period 0 (link_route ∷ []) ∷ [])) ≡
    at 0 0 0 0 []
    ∷ at 0 1 0 1 []
    ∷ at 1 3 0 0 (Sent 0 (address 2) false 1028 ∷ [])
    ∷ at 2028001 7 0 1 (Udp 7 1000 ∷ [])
    ∷ []
unfolding pair_run machine_of comes_before planned starts_of drawn_start at_first host_reaction routes_at own_addresses is_down forwarded sending source_to best_route sent received offered after_offer next_server after_next udp_arrived arrived with_poke heard clock_wait refilled datagram_sent udp_sent least
a_datagram_is_delivered = refl

-- the link is down from the first tick on, up to a millisecond
abbrev down_first : List (ℕ × ℕ)
down_first = (1, 1000000) ∷ []

-- then there is no route over it
no_route_while_the_link_is_down : pair_run (sender_rows down_first (period 0 (link_route ∷ []) ∷ period 1 [] ∷ period 1000000 (link_route ∷ []) ∷ [])) ≡
    at 0 0 0 0 []
    ∷ at 0 1 0 1 []
    ∷ at 1 3 0 0 (Dropped NoRoute false 1028 ∷ [])
    ∷ []
unfolding pair_run machine_of comes_before planned starts_of drawn_start at_first host_reaction routes_at own_addresses is_down forwarded sending source_to best_route sent received offered after_offer next_server after_next udp_arrived arrived with_poke heard clock_wait refilled datagram_sent udp_sent least
no_route_while_the_link_is_down = refl

-- but for a default route, by which the packet meets the link
no_way_over_a_link_that_is_down : pair_run (sender_rows down_first (period 0 (link_route ∷ gateway ∷ []) ∷ period 1 (gateway ∷ []) ∷ period 1000000 (link_route ∷ gateway ∷ []) ∷ [])) ≡
    at 0 0 0 0 []
    ∷ at 0 1 0 1 []
    ∷ at 1 3 0 0 (Dropped Link false 1028 ∷ [])
    ∷ []
unfolding pair_run machine_of comes_before planned starts_of drawn_start at_first host_reaction routes_at own_addresses is_down forwarded sending source_to best_route sent received offered after_offer next_server after_next udp_arrived arrived with_poke heard clock_wait refilled datagram_sent udp_sent least
no_way_over_a_link_that_is_down = refl

-- A host, a router and a host: the first opens a transfer of 1,500 bytes to port 10 of the last at 10^9 ticks.
abbrev client_rows : HostRows
client_rows = record {
  number = 0;
  ports = a_port 0 0 1 ((address 2, 3) ∷ []) [] ∷ [];
  routes = period 0 (link_route ∷ gateway ∷ []) ∷ [];
  clients = record { tcp = true; start = 1000000000; window = 0; file = 1500; datagram = 1000; interval = 10000000 } ∷ [];
  servers = record { client = 0; interface = 3; port = 10 } ∷ [];
  addresses = (3, address 5) ∷ [];
  listens = [];
  tcp = settings 10000;
  poke_in = 1;
  poke_out = 0;
}

abbrev router_rows : HostRows
router_rows = record {
  number = 1;
  ports = a_port 0 2 2 ((address 1, 4) ∷ []) [] ∷ a_port 1 3 6 ((address 5, 6) ∷ []) [] ∷ [];
  routes = period 0 (link_route ∷ a_route (address 4) 30 1 0 1 ∷ []) ∷ [];
  clients = [];
  servers = [];
  addresses = [];
  listens = [];
  tcp = settings 0;
  poke_in = 4;
  poke_out = 1;
}

abbrev server_rows : HostRows
server_rows = record {
  number = 2;
  ports = a_port 0 5 5 ((address 6, 5) ∷ []) [] ∷ [];
  routes = period 0 (a_route (address 4) 30 0 0 1 ∷ a_route 0 0 0 (address 6) 0 ∷ []) ∷ [];
  clients = [];
  servers = [];
  addresses = [];
  listens = 10 ∷ [];
  tcp = settings 10000;
  poke_in = 6;
  poke_out = 2;
}

abbrev pub net_draft : Draft (Unit {0}) HostFields
net_draft = record {
  behaviour = tt;
  entities =
      host 0 (0 ∷ 1 ∷ []) (0 ∷ 3 ∷ []) (false ∷ true ∷ true ∷ []) client_rows
      ∷ host 1 (2 ∷ 3 ∷ 4 ∷ []) (1 ∷ 4 ∷ 6 ∷ []) (false ∷ false ∷ true ∷ []) router_rows
      ∷ host 2 (5 ∷ 6 ∷ []) (2 ∷ 5 ∷ []) (false ∷ true ∷ []) server_rows
      ∷ [];
  in_owners = 0 ∷ 0 ∷ 1 ∷ 1 ∷ 1 ∷ 2 ∷ 2 ∷ [];
  outs = out 0 0 ∷ out 1 0 ∷ out 2 0 ∷ out 0 100000 ∷ out 1 0 ∷ out 2 0 ∷ out 1 0 ∷ [];
  mappings =
      a_mapping 0 1 0 0 0
      ∷ a_mapping 1 4 1 1 0
      ∷ a_mapping 2 6 2 2 0
      ∷ a_mapping 3 2 0 1 1100000
      ∷ a_mapping 4 0 1 0 1000000
      ∷ a_mapping 5 3 2 1 2000000
      ∷ a_mapping 6 5 1 2 2000000
      ∷ [];
}

net_run : (until events : ℕ) → List Seen
net_run until events = let plan : Plan (Unit {0}) HostFields PacketFields = planned net_draft in map seen (run_entries host_reaction plan until all_kept events)

a_transfer_is_opened : net_run 1005000000 9 ≡
    at 0 0 0 0 []
    ∷ at 0 1 0 1 []
    ∷ at 0 2 0 2 []
    ∷ at 1000000000 4 0 0 (Entered 10000 (address 5) 10 SynSent ∷ Sent 0 (address 2) true 40 ∷ [])
    ∷ at 1000000000 7 0 0 []
    ∷ at 1001140000 10 0 1 (Sent 1 (address 5) true 40 ∷ [])
    ∷ at 1003180000 13 0 2 (Entered 10 (address 1) 10000 SynReceived ∷ Sent 0 (address 6) true 40 ∷ [])
    ∷ at 1003180000 9 0 2 []
    ∷ []
unfolding net_run machine_of comes_before planned starts_of drawn_start at_first host_reaction routes_at own_addresses is_down forwarded sending source_to best_route sent received offered after_offer next_server after_next arrived with_poke heard clock_wait least transfer_sockets next_transfer tcp_turn connecting opened first_timeout first_window tcp_arrived may_accept found accepting listened
a_transfer_is_opened = refl

-- The lines of sessions and of timers, up to the end of the transfer.
trail : ℕ → World (States (Unit {0}) HostFields PacketFields) (Event PacketFields) → List Entry
trail zero w = []
trail (suc n) w =
    let mappings : List Mapping = (planned {P = PacketFields} net_draft).mappings in
    let next : World (States (Unit {0}) HostFields PacketFields) (Event PacketFields) = after (machine_of host_reaction mappings) 200000000000 all_kept w 1 in
    entries_from host_reaction mappings 200000000000 all_kept w 1 ++ trail n next

abbrev of_session : Line → Bool
of_session (Sent interface next tcp bytes) = false
of_session (Dropped reason tcp bytes) = false
of_session line = true

abbrev told : List Entry → List Line
told [] = []
told (e ∷ es) = filter of_session e.lines ++ told es

abbrev client_enters : TcpState → Line
client_enters state = Entered 10000 (address 5) 10 state

abbrev server_enters : TcpState → Line
server_enters state = Entered 10 (address 1) 10000 state

abbrev server_delivers : ℕ → Line
server_delivers bytes = Delivered 10 (address 1) 10000 bytes

a_transfer_goes_to_its_end : told (trail 60 (opening (planned {P = PacketFields} net_draft))) ≡
    client_enters SynSent
    ∷ server_enters SynReceived
    ∷ client_enters Established
    ∷ server_enters Established
    ∷ server_delivers 1000
    ∷ client_enters FinWait1
    ∷ server_delivers 500
    ∷ server_enters LastAck
    ∷ client_enters FinWait2
    ∷ client_enters TimeWait
    ∷ server_enters Closed
    ∷ client_enters Closed
    ∷ []
unfolding trail machine_of comes_before planned starts_of drawn_start at_first host_reaction routes_at own_addresses is_down forwarded sending source_to best_route sent received offered after_offer next_server after_next arrived with_poke heard clock_wait least transfer_sockets next_transfer tcp_turn connecting opened first_timeout first_window tcp_arrived may_accept found accepting listened turned settled next_after at_opening at_syn_ack sent_out data_stop data_count fin_sent edge measured timing_at_send deadline_at sampled at_later at_plain at_acknowledgment at_ack at_new_ack grown at_last_fin at_start at_data kept_with fin_with added at_kept hole at_end at_last ticked timed_out due numbered at_client_timeout
a_transfer_goes_to_its_end = refl

-- Three packets offered at once to an interface with a buffer of 2,000 bytes: the second finds no room.
abbrev tight_rows : HostRows
tight_rows =
    let rows : HostRows = sender_rows [] (period 0 (link_route ∷ []) ∷ []) in
    record rows { ports = record (a_port 0 0 1 ((address 2, 2) ∷ []) []) { buffer = 2000 } ∷ [] }

abbrev a_datagram : ℕ → PacketFields
a_datagram bytes = record { src = address 1; dst = address 2; tcp = false; ttl = 64; src_port = 0; dst_port = 7; bytes = bytes; segment = None }

three_sent : Effect
three_sent =
    let first : Stack = first_stack tight_rows in
    and_then (sending tight_rows 0 (a_datagram 1500) first)
    (λ second. and_then (sending tight_rows 0 (a_datagram 1500) second) (λ third. sending tight_rows 0 (a_datagram 500) third))

what_finds_no_room_is_dropped : three_sent.lines ≡ Sent 0 (address 2) false 1500 ∷ Dropped Buffer false 1500 ∷ Sent 0 (address 2) false 500 ∷ []
unfolding three_sent routes_at own_addresses is_down forwarded sending best_route sent offered after_offer at_first
what_finds_no_room_is_dropped = refl

what_finds_room_goes_out : three_sent.writes ≡ Channel 2 1500000 (a_datagram 1500) ∷ Channel 2 2000000 (a_datagram 500) ∷ []
unfolding three_sent routes_at own_addresses is_down forwarded sending best_route sent offered after_offer at_first
what_finds_room_goes_out = refl
