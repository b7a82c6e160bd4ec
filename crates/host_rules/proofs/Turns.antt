-- Effects that keep a host in range: packets that come, deadlines, transfers and datagrams.
use Rattle.std.proofs.Common.{◌≡◌, ℕ, ◌+◌, ◌-◌, ◌*◌, ◌<◌, ◌≤◌, Bool, true, false, ◌&&◌, ◌||◌, Option, Some, None, List, [], ◌∷◌, length, min, nat_eq, nat_le, nat_lt, refl, arith, if◌then◌else◌}
use Rattle.std.specs.Prelude.{slice_get, is_none}
use Rattle.std.specs.List.{filter, count_by}
use Rattle.std.specs.Option.{ForSome}
use Rattle.std.proofs.lemmas.Bool.{ltb-true}
use Rattle.std.proofs.lemmas.List.{length-map}
use Rattle.event_order.specs.Pending.{Among}
use Rattle.sim_base.specs.declared.records.ClientRow.{ClientRow}
use Rattle.sim_base.specs.declared.records.ServerRow.{ServerRow}
use Rattle.sim_base.specs.declared.records.TcpConfig.{TcpConfig}
use Rattle.sim_base.specs.declared.records.Reason.TheVariants.{Ttl, Route as NoRoute}
use Rattle.sim_base.specs.SegmentFields.{SegmentFields, IsSegment}
use Rattle.spf_routes.specs.declared.graph.Route.{Route}
use Rattle.ssf_model.specs.Reaction.{Each, LatestTime}
use Rattle.ip_layer.specs.Packets.{PacketFields, IsPacket}
use Rattle.ip_layer.specs.Forwarding.{has_address, forward, best_route, sent, received, passed_on}
use Rattle.ip_layer.specs.declared.verdict.Verdict.{Verdict}
use Rattle.ip_layer.specs.declared.verdict.Verdict.TheVariants.{Local, Forward, Dropped as DroppedBy}
use Rattle.tcp_rules.specs.Segments.{Turn, sent_of}
use Rattle.tcp_rules.specs.Clients.{opened}
use Rattle.tcp_rules.specs.Servers.{listened}
use Rattle.tcp_rules.specs.Sessions.{End, Client, Server, connecting, accepting, at_segment, at_timeout, state_of}
use Rattle.tcp_rules.specs.Limits.{IsOrderly}
use Rattle.tcp_rules.proofs.Sessions.{connecting_orderly, accepting_orderly, segment_orderly, timeout_orderly}
use Rattle.traffic.specs.Progress.{next_server}
use Rattle.host_rules.specs.declared.rows.HostRows.{HostRows}
use Rattle.host_rules.specs.Hosts.{Sockets, EntryFields, Stack}
use Rattle.host_rules.specs.Effects.{Effect, quiet}
use Rattle.host_rules.specs.Sending.{routes_at, own_addresses, by_verdict, all_done}
use Rattle.host_rules.specs.Entries.{same_sockets, found, numbered, is_accepted, is_due, due, least, is_closed, settled, ends}
use Rattle.host_rules.specs.Hearing.{MostAccepted, server_address, transfer_sockets, with_transfer, with_entry, opening_to, next_transfer, next_of, next_after, turned, listens_on, udp_arrived, may_accept, sockets_of, opened_by, tcp_arrived_at, tcp_arrived, at_home, at_verdict, arrived, timed_out_at, timed_out, all_timed_out}
use Rattle.host_rules.specs.Reacting.{blank_packet, is_same_tick, poke_unless, with_poke, heard, ticked, left_of, with_left, refilled, datagram, present_server, datagram_to, datagram_sent, udp_turn, tcp_turn, udp_sent}
use Rattle.host_rules.specs.Sources.{IsOwn}
use Rattle.host_rules.specs.Limits.{AreRows, IsTimedClient, HasOuts, IsKindOf, IsEntry, IsStack}
use Rattle.host_rules.proofs.Listing.{if_case, each_at, each_among, found_among, length_filter}
use Rattle.host_rules.proofs.Tables.{settled_stack, accepted_stack}
use Rattle.host_rules.proofs.Giving.{transfer_stack, left_stack, refilled_stack, sessions_few}
use Rattle.host_rules.proofs.Lawful.{IsLawful, lawful_quiet, lawful_telling, lawful_more, lawful_then, verdict_lawful, sending_lawful, all_done_lawful, source_own, own_address}

-- Kinds of sessions.
connecting_open : (config : TcpConfig) (bytes now : ℕ) → is_closed (state_of (connecting config bytes now).after) ≡ false
unfolding connecting opened
connecting_open config bytes now = refl

connecting_kind : (client : ℕ) (config : TcpConfig) (bytes now : ℕ) → IsKindOf (Some client) (connecting config bytes now).after
unfolding connecting
connecting_kind client config bytes now = tt

accepting_open : (config : TcpConfig) (syn : SegmentFields) (now : ℕ) → is_closed (state_of (accepting config syn now).after) ≡ false
unfolding accepting listened
accepting_open config syn now = refl

accepting_kind : (config : TcpConfig) (syn : SegmentFields) (now : ℕ) → IsKindOf None (accepting config syn now).after
unfolding accepting
accepting_kind config syn now = tt

segment_kind : (client : Option ℕ) (e : End) (g : SegmentFields) (now : ℕ) → IsKindOf client e → IsKindOf client (at_segment e g now).after
segment_kind None (Client c) g now kind = kind
segment_kind None (Server s) g now kind = kind
segment_kind (Some k) (Client c) g now kind = kind
segment_kind (Some k) (Server s) g now kind = kind

timeout_kind : (client : Option ℕ) (e : End) (now : ℕ) → IsKindOf client e → IsKindOf client (at_timeout e now).after
timeout_kind None (Client c) now kind = kind
timeout_kind None (Server s) now kind = kind
timeout_kind (Some k) (Client c) now kind = kind
timeout_kind (Some k) (Server s) now kind = kind

found_is : (sockets : Sockets) (xs : List EntryFields) (x : EntryFields) → found sockets xs ≡ Some x → Among x xs
unfolding found
found_is sockets xs x e = found_among (λ (y : EntryFields). same_sockets y.sockets sockets) xs x e

numbered_is : (number : ℕ) (xs : List EntryFields) (x : EntryFields) → numbered number xs ≡ Some x → Among x xs
unfolding numbered
numbered_is number xs x e = found_among (λ (y : EntryFields). nat_eq y.number number) xs x e

last_true : (a b c d : Bool) → (a && (b && (c && d))) ≡ true → d ≡ true
last_true true true true d e = e
last_true true true false d e = absurd (cc)
last_true true false c d e = absurd (cc)
last_true false b c d e = absurd (cc)

room_left : (rows : HostRows) (packet : PacketFields) (segment : SegmentFields) (s : Stack) → may_accept rows packet segment s ≡ true → count_by is_accepted s.sessions < MostAccepted
unfolding may_accept
room_left rows packet segment s e =
    ltb-true (count_by is_accepted s.sessions) MostAccepted
    (last_true segment.syn (is_none segment.ack) (listens_on rows packet.dst_port) (nat_lt (count_by is_accepted s.sessions) MostAccepted) e)

-- A packet is for the host only where its destination is one of the host's addresses.
forward_not_local : (o : Option ℕ) → forward o ≡ Local → ⊥
forward_not_local None e = cc
forward_not_local (Some place) e = cc

sent_not_local : (own : List ℕ) (routes : List Route) (packet : PacketFields) → sent own routes packet ≡ Local → ⊥
unfolding sent
sent_not_local own routes packet e = sent_case (has_address own packet.dst) e
  where
    sent_case : (b : Bool) → (if b then DroppedBy NoRoute else forward (best_route routes packet.dst)) ≡ Local → ⊥
    sent_case true e = cc
    sent_case false e = forward_not_local (best_route routes packet.dst) e

local_is : (own : List ℕ) (routes : List Route) (packet : PacketFields) → received own routes packet ≡ Local → has_address own packet.dst ≡ true
unfolding received
local_is own routes packet e = received_case (has_address own packet.dst) refl e
  where
    ttl_case : (b : Bool) → (if b then DroppedBy Ttl else sent own routes (passed_on packet)) ≡ Local → ⊥
    ttl_case true e = cc
    ttl_case false e = sent_not_local own routes (passed_on packet) e

    received_case : (b : Bool) → has_address own packet.dst ≡ b → (if b then Local else if nat_le packet.ttl 1 then DroppedBy Ttl else sent own routes (passed_on packet)) ≡ Local → has_address own packet.dst ≡ true
    received_case true t e = t
    received_case false t e = absurd (ttl_case (nat_le packet.ttl 1) e)

blank_is : IsPacket blank_packet
blank_is = record { protocol = refl; segment = λ x e. absurd (cc); tcp_bytes = λ x e. absurd (cc); udp_bytes = λ e. omega arith }

datagram_is : (rows : HostRows) (now bytes : ℕ) (server : ServerRow) (s : Stack) → IsPacket (datagram rows now bytes server s)
datagram_is rows now bytes server s = record { protocol = refl; segment = λ x e. absurd (cc); tcp_bytes = λ x e. absurd (cc); udp_bytes = λ e. omega arith }

due_few : (now : ℕ) (xs : List EntryFields) → length (due now xs) ≤ length xs
unfolding due
due_few now xs = omega (arith, length-map (filter (is_due now) xs) (λ (x : EntryFields). x.number), length_filter (is_due now) xs)

module _ (rows : HostRows) (C : PacketFields → Type 0) (outs : List ℕ) (ranges : AreRows rows) (ways : Each (HasOuts outs) rows.ports)
    (makes : (packet : PacketFields) → IsPacket packet → IsOwn rows packet → C packet) where
  -- Transfers.
  opening_to_lawful : (now client : ℕ) (row : Option ClientRow) (server : Option ServerRow) (s : Stack) → slice_get rows.clients client ≡ row → next_server s.apps client ≡ server
      → client < length rows.clients → now ≤ LatestTime → IsStack rows s → IsLawful rows C outs 1 (opening_to rows now client row server s)
  unfolding transfer_sockets
  opening_to_lawful now client None server s e f below early is = lawful_quiet rows C outs 1 s is
  opening_to_lawful now client (Some row) None s e f below early is = lawful_quiet rows C outs 1 s is
  opening_to_lawful now client (Some row) (Some server) s e f below early is =
      let sockets = transfer_sockets rows now server s in
      let turn = connecting rows.tcp row.file now in
      let timed = each_at IsTimedClient rows.clients client row ranges.clients e in
      let orderly = connecting_orderly rows.tcp row.file now ranges.tcp timed.ranges.file in
      lawful_more rows C outs (length (sent_of turn.acts)) 1 (all_done rows now sockets turn.acts (with_transfer sockets client turn.after s)) orderly.few
      (all_done_lawful rows C outs ranges ways makes now sockets turn.acts (with_transfer sockets client turn.after s) (source_own rows s now (server_address rows server)) orderly.segments early
      (transfer_stack rows s sockets client server turn.after is below f orderly.session (connecting_open rows.tcp row.file now)
      (connecting_kind client rows.tcp row.file now) (source_own rows s now (server_address rows server)) refl))

  next_transfer_lawful : (now client : ℕ) (s : Stack) → client < length rows.clients → now ≤ LatestTime → IsStack rows s → IsLawful rows C outs 1 (next_transfer rows now client s)
  unfolding next_transfer
  next_transfer_lawful now client s below early is =
      opening_to_lawful now client (slice_get rows.clients client) (next_server s.apps client) s refl refl below early is

  next_of_lawful : (now : ℕ) (client : Option ℕ) (s : Stack) → ForSome client (λ k. k < length rows.clients) → now ≤ LatestTime → IsStack rows s → IsLawful rows C outs 1 (next_of rows now client s)
  next_of_lawful now None s below early is = lawful_quiet rows C outs 1 s is
  next_of_lawful now (Some client) s below early is = next_transfer_lawful now client s (below client refl) early is

  next_after_lawful : (now : ℕ) (x : EntryFields) (session : End) (s : Stack) → ForSome x.client (λ k. k < length rows.clients) → now ≤ LatestTime → IsStack rows s
      → IsLawful rows C outs 1 (next_after rows now x session s)
  unfolding next_after
  next_after_lawful now x session s below early is =
      if_case (λ (e : Effect). IsLawful rows C outs 1 e) (ends (state_of x.session) (state_of session))
      (λ t. next_of_lawful now x.client s below early is) (λ t. lawful_quiet rows C outs 1 s is)

  -- Sessions.
  turned_lawful : (most now : ℕ) (x : EntryFields) (turn : Turn End) (s : Stack) → Among x s.sessions → IsOrderly most turn → IsKindOf x.client turn.after → now ≤ LatestTime → IsStack rows s
      → IsLawful rows C outs (most + 1) (turned rows now x turn s)
  unfolding turned
  turned_lawful most now x turn s among orderly kind early is =
      let entry = each_among (IsEntry rows s.opened s.made) s.sessions x is.entries among in
      let after : Stack = record s { sessions = settled x.number turn.after s.sessions } in
      lawful_then rows C outs most 1 (all_done rows now x.sockets turn.acts after) (next_after rows now x turn.after)
      (lawful_more rows C outs (length (sent_of turn.acts)) most (all_done rows now x.sockets turn.acts after) orderly.few
      (all_done_lawful rows C outs ranges ways makes now x.sockets turn.acts after entry.own orderly.segments early (settled_stack rows s x turn.after is among orderly.session kind)))
      (λ t k. next_after_lawful now x turn.after t entry.client early k)

  -- Packets.
  udp_lawful : (most : ℕ) (packet : PacketFields) (s : Stack) → IsStack rows s → IsLawful rows C outs most (udp_arrived rows packet s)
  unfolding udp_arrived
  udp_lawful most packet s is =
      if_case (λ (e : Effect). IsLawful rows C outs most e) (listens_on rows packet.dst_port) (λ t. lawful_telling rows C outs most _ s is) (λ t. lawful_telling rows C outs most _ s is)

  opened_by_lawful : (now : ℕ) (sockets : Sockets) (segment : SegmentFields) (s : Stack) → IsSegment segment → (nat_eq sockets.own 0 || has_address (own_addresses rows) sockets.own) ≡ true
      → found sockets s.sessions ≡ None → count_by is_accepted s.sessions < MostAccepted → now ≤ LatestTime → IsStack rows s → IsLawful rows C outs 65539 (opened_by rows now sockets segment s)
  opened_by_lawful now sockets segment s ranged own none room early is =
      let turn = accepting rows.tcp segment now in
      let orderly = accepting_orderly rows.tcp segment now ranges.tcp ranged in
      let few = orderly.few in
      lawful_more rows C outs (length (sent_of turn.acts)) 65539 (all_done rows now sockets turn.acts (with_entry sockets None turn.after s)) (omega (arith, few))
      (all_done_lawful rows C outs ranges ways makes now sockets turn.acts (with_entry sockets None turn.after s) own orderly.segments early
      (accepted_stack rows s sockets turn.after is orderly.session (accepting_open rows.tcp segment now) (accepting_kind rows.tcp segment now) own none room))

  tcp_at_lawful : (now : ℕ) (packet : PacketFields) (segment : SegmentFields) (x : Option EntryFields) (s : Stack) → found (sockets_of packet) s.sessions ≡ x → IsSegment segment
      → has_address (own_addresses rows) packet.dst ≡ true → now ≤ LatestTime → IsStack rows s → IsLawful rows C outs 65539 (tcp_arrived_at rows now packet segment x s)
  tcp_at_lawful now packet segment (Some x) s e ranged here early is =
      let among = found_is (sockets_of packet) s.sessions x e in
      let entry = each_among (IsEntry rows s.opened s.made) s.sessions x is.entries among in
      lawful_more rows C outs (65538 + 1) 65539 (turned rows now x (at_segment x.session segment now) s) (omega arith)
      (turned_lawful 65538 now x (at_segment x.session segment now) s among (segment_orderly x.session segment now entry.ranges ranged) (segment_kind x.client x.session segment now entry.kind) early is)
  tcp_at_lawful now packet segment None s e ranged here early is =
      if_case (λ (f : Effect). IsLawful rows C outs 65539 f) (may_accept rows packet segment s)
      (λ t. opened_by_lawful now (sockets_of packet) segment s ranged (own_address rows packet.dst here) e (room_left rows packet segment s t) early is)
      (λ t. lawful_telling rows C outs 65539 _ s is)

  tcp_lawful : (now : ℕ) (packet : PacketFields) (segment : SegmentFields) (s : Stack) → IsSegment segment → has_address (own_addresses rows) packet.dst ≡ true → now ≤ LatestTime → IsStack rows s
      → IsLawful rows C outs 65539 (tcp_arrived rows now packet segment s)
  unfolding tcp_arrived
  tcp_lawful now packet segment s ranged here early is = tcp_at_lawful now packet segment (found (sockets_of packet) s.sessions) s refl ranged here early is

  home_lawful : (now : ℕ) (packet : PacketFields) (segment : Option SegmentFields) (s : Stack) → ForSome segment IsSegment → has_address (own_addresses rows) packet.dst ≡ true → now ≤ LatestTime
      → IsStack rows s → IsLawful rows C outs 65539 (at_home rows now packet segment s)
  home_lawful now packet None s ranged here early is = udp_lawful 65539 packet s is
  home_lawful now packet (Some segment) s ranged here early is = tcp_lawful now packet segment s (ranged segment refl) here early is

  passed_lawful : (routes : List Route) (now : ℕ) (packet : PacketFields) (v : Verdict) (s : Stack) → C (passed_on packet) → now ≤ LatestTime → IsStack rows s
      → IsLawful rows C outs 65539 (by_verdict rows routes now (passed_on packet) v s)
  passed_lawful routes now packet v s passed early is =
      lawful_more rows C outs 1 65539 (by_verdict rows routes now (passed_on packet) v s) (omega arith)
      (verdict_lawful rows C outs ranges ways routes now (passed_on packet) v s passed early is)

  at_verdict_lawful : (routes : List Route) (now : ℕ) (packet : PacketFields) (v : Verdict) (s : Stack) → (v ≡ Local → has_address (own_addresses rows) packet.dst ≡ true) → IsPacket packet
      → C (passed_on packet) → now ≤ LatestTime → IsStack rows s → IsLawful rows C outs 65539 (at_verdict rows routes now packet v s)
  at_verdict_lawful routes now packet Local s here carried passed early is = home_lawful now packet packet.segment s carried.segment (here refl) early is
  at_verdict_lawful routes now packet (Forward place) s here carried passed early is = passed_lawful routes now packet (Forward place) s passed early is
  at_verdict_lawful routes now packet (DroppedBy reason) s here carried passed early is = passed_lawful routes now packet (DroppedBy reason) s passed early is

  arrived_lawful : (now : ℕ) (packet : PacketFields) (s : Stack) → IsPacket packet → C (passed_on packet) → now ≤ LatestTime → IsStack rows s
      → IsLawful rows C outs 65539 (arrived rows now packet s)
  unfolding arrived
  arrived_lawful now packet s carried passed early is =
      let routes = routes_at rows s now in
      at_verdict_lawful routes now packet (received (own_addresses rows) routes packet) s (local_is (own_addresses rows) routes packet) carried passed early is

  -- Deadlines.
  timed_out_at_lawful : (now number : ℕ) (x : Option EntryFields) (s : Stack) → numbered number s.sessions ≡ x → now ≤ LatestTime → IsStack rows s → IsLawful rows C outs 2 (timed_out_at rows now x s)
  timed_out_at_lawful now number None s e early is = lawful_quiet rows C outs 2 s is
  timed_out_at_lawful now number (Some x) s e early is =
      let among = numbered_is number s.sessions x e in
      let entry = each_among (IsEntry rows s.opened s.made) s.sessions x is.entries among in
      if_case (λ (f : Effect). IsLawful rows C outs 2 f) (is_due now x)
      (λ t. lawful_more rows C outs (1 + 1) 2 (turned rows now x (at_timeout x.session now) s) (omega arith)
      (turned_lawful 1 now x (at_timeout x.session now) s among (timeout_orderly x.session now entry.ranges) (timeout_kind x.client x.session now entry.kind) early is))
      (λ t. lawful_quiet rows C outs 2 s is)

  timed_out_lawful : (now number : ℕ) (s : Stack) → now ≤ LatestTime → IsStack rows s → IsLawful rows C outs 2 (timed_out rows now number s)
  unfolding timed_out
  timed_out_lawful now number s early is = timed_out_at_lawful now number (numbered number s.sessions) s refl early is

  all_timed_out_lawful : (now : ℕ) (numbers : List ℕ) (s : Stack) → now ≤ LatestTime → IsStack rows s → IsLawful rows C outs (2 * length numbers) (all_timed_out rows now numbers s)
  all_timed_out_lawful now [] s early is = lawful_quiet rows C outs (2 * length {A = ℕ} []) s is
  all_timed_out_lawful now (number ∷ numbers) s early is =
      lawful_more rows C outs (2 + 2 * length numbers) (2 * length (number ∷ numbers)) (all_timed_out rows now (number ∷ numbers) s) (omega arith)
      (lawful_then rows C outs 2 (2 * length numbers) (timed_out rows now number s) (all_timed_out rows now numbers) (timed_out_lawful now number s early is)
      (λ t k. all_timed_out_lawful now numbers t early k))

  pub ticked_lawful : (now : ℕ) (s : Stack) → now ≤ LatestTime → IsStack rows s → IsLawful rows C outs 2100000 (ticked rows now s)
  unfolding ticked
  ticked_lawful now s early is =
      let few = sessions_few rows s ranges is in
      lawful_more rows C outs (2 * length (due now s.sessions)) 2100000 (all_timed_out rows now (due now s.sessions) s) (omega (arith, due_few now s.sessions, few))
      (all_timed_out_lawful now (due now s.sessions) s early is)

  -- Pokes.
  poke_lawful : (same : Bool) (s : Stack) → Among rows.poke_out outs → IsStack rows s → IsLawful rows C outs 1 (poke_unless same rows s)
  poke_lawful true s among is = lawful_quiet rows C outs 1 s is
  poke_lawful false s among is = record { stack = is; writes = ((among, omega arith, makes blank_packet blank_is (refl, refl)), tt); few = omega arith }

  with_poke_lawful : (most : ℕ) (before : Stack) (e : Effect) → Among rows.poke_out outs → IsLawful rows C outs most e → IsLawful rows C outs (most + 1) (with_poke rows before e)
  unfolding with_poke
  with_poke_lawful most before e among is =
      let same = is_same_tick (least before.sessions) (least e.stack.sessions) in
      lawful_then rows C outs most 1 e (poke_unless same rows) is (λ t k. poke_lawful same t among k)

  pub heard_lawful : (now : ℕ) (packet : PacketFields) (s : Stack) → Among rows.poke_out outs → IsPacket packet → C (passed_on packet) → now ≤ LatestTime → IsStack rows s
      → IsLawful rows C outs 65540 (heard rows now packet s)
  unfolding heard
  heard_lawful now packet s among carried passed early is =
      lawful_more rows C outs (65539 + 1) 65540 (with_poke rows s (arrived rows now packet s)) (omega arith)
      (with_poke_lawful 65539 s (arrived rows now packet s) among (arrived_lawful now packet s carried passed early is))

  -- Client sessions.
  pub tcp_turn_lawful : (now client : ℕ) (s : Stack) → Among rows.poke_out outs → client < length rows.clients → now ≤ LatestTime → IsStack rows s → IsLawful rows C outs 2 (tcp_turn rows now client s)
  unfolding tcp_turn
  tcp_turn_lawful now client s among below early is =
      lawful_more rows C outs (1 + 1) 2 (with_poke rows s (next_transfer rows now client s)) (omega arith)
      (with_poke_lawful 1 s (next_transfer rows now client s) among (next_transfer_lawful now client s below early is))

  datagram_to_lawful : (now client bytes : ℕ) (server : Option ServerRow) (s : Stack) → now ≤ LatestTime → IsStack rows s → IsLawful rows C outs 1 (datagram_to rows now client bytes server s)
  datagram_to_lawful now client bytes None s early is = lawful_quiet rows C outs 1 s is
  datagram_to_lawful now client bytes (Some server) s early is =
      sending_lawful rows C outs ranges ways now (datagram rows now bytes server s) (with_left client (left_of client s - bytes) s)
      (makes (datagram rows now bytes server s) (datagram_is rows now bytes server s) (source_own rows s now (server_address rows server), refl)) early
      (left_stack rows s client (left_of client s - bytes) is)

  datagram_sent_lawful : (now client : ℕ) (row : ClientRow) (s : Stack) → now ≤ LatestTime → IsStack rows s → IsLawful rows C outs 1 (datagram_sent rows now client row s)
  unfolding datagram_sent
  datagram_sent_lawful now client row s early is =
      if_case (λ (e : Effect). IsLawful rows C outs 1 e) (nat_eq (left_of client s) 0) (λ t. lawful_quiet rows C outs 1 s is)
      (λ t. datagram_to_lawful now client (min row.datagram (left_of client s)) (present_server client s) s early is)

  udp_turn_lawful : (now client : ℕ) (row : ClientRow) (s : Stack) → client < length rows.clients → now ≤ LatestTime → IsStack rows s → IsLawful rows C outs 1 (udp_turn rows now client row s)
  udp_turn_lawful now client row s below early is =
      lawful_more rows C outs (1 + 0) 1 (udp_turn rows now client row s) (omega arith)
      (lawful_then rows C outs 1 0 (datagram_sent rows now client row (refilled client row.file s)) (λ after. quiet (refilled client row.file after))
      (datagram_sent_lawful now client row (refilled client row.file s) early (refilled_stack rows s client row.file is below))
      (λ t k. lawful_quiet rows C outs 0 (refilled client row.file t) (refilled_stack rows t client row.file k below)))

  pub udp_sent_lawful : (now client : ℕ) (row : ClientRow) (s : Stack) → Among rows.poke_out outs → client < length rows.clients → now ≤ LatestTime → IsStack rows s
      → IsLawful rows C outs 2 (udp_sent rows now client row s)
  unfolding udp_sent
  udp_sent_lawful now client row s among below early is =
      lawful_more rows C outs (1 + 1) 2 (with_poke rows s (udp_turn rows now client row s)) (omega arith)
      (with_poke_lawful 1 s (udp_turn rows now client row s) among (udp_turn_lawful now client row s below early is))
