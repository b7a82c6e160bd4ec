-- A host sends segments only between the ends of its sessions.
use Rattle.std.proofs.Common.{◌≡◌, ℕ, ◌+◌, ◌-◌, ◌≤◌, min, Bool, true, false, ◌&&◌, Option, Some, None, List, [], ◌∷◌, nat_eq, refl, subst, sym, ◌∙◌, inl, inr, arith}
use Rattle.std.specs.Prelude.{slice_get, slice_index, nat_lt}
use Rattle.event_order.specs.Pending.{Among}
use Rattle.sim_base.specs.SegmentFields.{SegmentFields}
use Rattle.sim_base.specs.declared.records.ClientRow.{ClientRow}
use Rattle.sim_base.specs.declared.records.ServerRow.{ServerRow}
use Rattle.spf_routes.specs.declared.graph.Route.{Route}
use Rattle.spf_routes.specs.Best.{route_at}
use Rattle.ssf_model.specs.declared.wait.Wake.{Wake}
use Rattle.ssf_model.specs.declared.wait.Wake.TheVariants.{Begin, Timer, Message}
use Rattle.ssf_model.specs.Reaction.{Each}
use Rattle.net_iface.specs.InterfaceFields.{InterfaceFields}
use Rattle.net_iface.specs.DropTail.{offered, after_offer}
use Rattle.net_iface.specs.declared.interface.Offer.{Offer}
use Rattle.net_iface.specs.declared.interface.Offer.TheVariants.{Sent, Dropped}
use Rattle.ip_layer.specs.Packets.{PacketFields}
use Rattle.ip_layer.specs.Forwarding.{received, sent, passed_on}
use Rattle.ip_layer.specs.declared.verdict.Verdict.{Verdict}
use Rattle.ip_layer.specs.declared.verdict.Verdict.TheVariants.{Local, Forward, Dropped as DroppedBy}
use Rattle.tcp_rules.specs.declared.records.Act.{Act}
use Rattle.tcp_rules.specs.declared.records.Act.TheVariants.{Entered, Delivered, Send}
use Rattle.tcp_rules.specs.Segments.{Turn}
use Rattle.tcp_rules.specs.Sessions.{End, connecting, accepting, at_segment, at_timeout, state_of}
use Rattle.traffic.specs.Progress.{next_server}
use Rattle.host_rules.specs.declared.rows.HostRows.{HostRows}
use Rattle.host_rules.specs.declared.rows.HostPort.{HostPort}
use Rattle.host_rules.specs.declared.sockets.Sockets.{Sockets}
use Rattle.host_rules.specs.Hosts.{EntryFields, Stack, HostFields}
use Rattle.host_rules.specs.Effects.{Effect, quiet, and_then}
use Rattle.host_rules.specs.Sending.{routes_at, own_addresses, second_of, is_down, answered, with_interface, offering, over_link, from_port, next_hop, forwarded, by_verdict, sending, packet_of, done, all_done}
use Rattle.host_rules.specs.Entries.{found, numbered, is_due, due, least, is_other, is_closed, settled, changed, ends}
use Rattle.host_rules.specs.Hearing.{entry_of, with_entry, with_transfer, transfer_sockets, opening_to, next_transfer, next_of, next_after, turned, listens_on, udp_arrived, may_accept, sockets_of, tcp_arrived_at, tcp_arrived, at_home, at_verdict, arrived, timed_out_at, timed_out, all_timed_out}
use Rattle.host_rules.specs.Reacting.{Role, Receiver, Clock, Client, roles, blank_packet, is_same_tick, poke_unless, with_poke, heard, receiver_reply, ticked, clock_effect, left_of, with_left, refilled_by, refilled, datagram, present_server, datagram_to, datagram_sent, udp_turn, tcp_turn, udp_sent, client_turn, client_reply, role_reply, reply_of, host_reaction}
use Rattle.host_rules.specs.Sources.{Brings}
use Rattle.host_rules.proofs.Listing.{if_case, each_append, each_map, each_filter, each_among}
use Rattle.transfer_laws.specs.Spoken.{AreEndsAt, IsBetweenEnds}
use Rattle.transfer_laws.proofs.Sessions.{found_is, numbered_is}

-- K holds of ends between which a host may send segments, and C of what it may write: what goes between such ends, and what brings no
-- segment. The ports of transfers that are opened from here on are new.
module _ (rows : HostRows) (K : Sockets → Type 0) (C : PacketFields → Type 0) (before : ℕ) (speaks : (ends : Sockets) (segment : SegmentFields) → K ends → C (packet_of ends segment))
    (plain : (packet : PacketFields) → packet.segment ≡ None → C packet) (opens : (ends : Sockets) → 10000 + before ≤ ends.own_port → K ends) where
  record IsKnown (s : Stack) : Type 0 where
    each : Each (λ (x : EntryFields). K x.sockets) s.sessions
    opened : before ≤ s.opened

  record IsSpoken (e : Effect) : Type 0 where
    after : IsKnown e.stack
    writes : Each (Brings C) e.writes

  -- ---- what sends packets leaves the sessions

  record IsSent (e : Effect) (s : Stack) : Type 0 where
    sessions : e.stack.sessions ≡ s.sessions
    opened : e.stack.opened ≡ s.opened
    writes : Each (Brings C) e.writes

  answered_sent : (port : HostPort) (next channel : ℕ) (packet : PacketFields) (o : Offer) (s : Stack) → C packet → IsSent (answered port next channel packet o s) s
  answered_sent port next channel packet (Sent ticks) s c = record { sessions = refl; opened = refl; writes = (c, tt) }
  answered_sent port next channel packet Dropped s c = record { sessions = refl; opened = refl; writes = tt }

  offering_sent : (port : HostPort) (place next channel now : ℕ) (packet : PacketFields) (i : Option InterfaceFields) (s : Stack) → C packet → IsSent (offering port place next channel now packet i s) s
  offering_sent port place next channel now packet None s c = record { sessions = refl; opened = refl; writes = tt }
  offering_sent port place next channel now packet (Some i) s c =
      let sub = answered_sent port next channel packet (offered i packet.bytes now) (with_interface place (after_offer i packet.bytes now) s) c in
      record { sessions = sub.sessions; opened = sub.opened; writes = sub.writes }

  over_link_sent : (port : HostPort) (place next now : ℕ) (packet : PacketFields) (channel : Option ℕ) (s : Stack) → C packet → IsSent (over_link port place next now packet channel s) s
  over_link_sent port place next now packet None s c = record { sessions = refl; opened = refl; writes = tt }
  over_link_sent port place next now packet (Some channel) s c =
      if_case (λ (f : Effect). IsSent f s) (is_down port now) (λ t. record { sessions = refl; opened = refl; writes = tt })
      (λ t. offering_sent port place next channel now packet (slice_get s.interfaces place) s c)

  from_port_sent : (port : Option HostPort) (place next now : ℕ) (packet : PacketFields) (s : Stack) → C packet → IsSent (from_port port place next now packet s) s
  from_port_sent None place next now packet s c = record { sessions = refl; opened = refl; writes = tt }
  from_port_sent (Some port) place next now packet s c = over_link_sent port place next now packet (second_of port.outs next) s c

  forwarded_sent : (route : Route) (now : ℕ) (packet : PacketFields) (s : Stack) → C packet → IsSent (forwarded rows route now packet s) s
  unfolding forwarded
  forwarded_sent route now packet s c = from_port_sent (slice_get rows.ports route.interface) route.interface (next_hop route packet) now packet s c

  verdict_sent : (routes : List Route) (now : ℕ) (packet : PacketFields) (v : Verdict) (s : Stack) → C packet → IsSent (by_verdict rows routes now packet v s) s
  verdict_sent routes now packet Local s c = record { sessions = refl; opened = refl; writes = tt }
  verdict_sent routes now packet (Forward place) s c = forwarded_sent (route_at routes place) now packet s c
  verdict_sent routes now packet (DroppedBy reason) s c = record { sessions = refl; opened = refl; writes = tt }

  sending_sent : (now : ℕ) (packet : PacketFields) (s : Stack) → C packet → IsSent (sending rows now packet s) s
  unfolding sending
  sending_sent now packet s c = verdict_sent (routes_at rows s now) now packet (sent (own_addresses rows) (routes_at rows s now) packet) s c

  done_sent : (now : ℕ) (ends : Sockets) (act : Act) (s : Stack) → K ends → IsSent (done rows now ends act s) s
  done_sent now ends (Entered state) s k = record { sessions = refl; opened = refl; writes = tt }
  done_sent now ends (Delivered bytes) s k = record { sessions = refl; opened = refl; writes = tt }
  done_sent now ends (Send segment) s k = sending_sent now (packet_of ends segment) s (speaks ends segment k)

  all_done_sent : (now : ℕ) (ends : Sockets) (acts : List Act) (s : Stack) → K ends → IsSent (all_done rows now ends acts s) s
  all_done_sent now ends [] s k = record { sessions = refl; opened = refl; writes = tt }
  all_done_sent now ends (act ∷ acts) s k =
      let effect = done rows now ends act s in
      let first = done_sent now ends act s k in
      let next = all_done_sent now ends acts effect.stack k in
      record {
        sessions = next.sessions ∙ first.sessions;
        opened = next.opened ∙ first.opened;
        writes = each_append (Brings C) effect.writes (all_done rows now ends acts effect.stack).writes first.writes next.writes;
      }

  spoken_of : (e : Effect) (s : Stack) → IsSent e s → IsKnown s → IsSpoken e
  spoken_of e s is known = record {
    after = record {
      each = subst (λ (xs : List EntryFields). Each (λ (x : EntryFields). K x.sockets) xs) (sym is.sessions) known.each;
      opened = subst (λ k. before ≤ k) (sym is.opened) known.opened;
    };
    writes = is.writes;
  }

  spoken_then : (e : Effect) (f : Stack → Effect) → IsSpoken e → ((t : Stack) → IsKnown t → IsSpoken (f t)) → IsSpoken (and_then e f)
  spoken_then e f first next =
      let rest = next e.stack first.after in
      record { after = rest.after; writes = each_append (Brings C) e.writes (f e.stack).writes first.writes rest.writes }

  -- ---- sessions

  entry_known : (ends : Sockets) (client : Option ℕ) (session : End) (s : Stack) → K ends → IsKnown s → IsKnown (with_entry ends client session s)
  entry_known ends client session s k known = record {
    each = each_append (λ (x : EntryFields). K x.sockets) s.sessions (entry_of ends client session s ∷ []) known.each (k, tt);
    opened = known.opened;
  }

  settled_known : (number : ℕ) (session : End) (s : Stack) → IsKnown s → IsKnown (record s { sessions = settled number session s.sessions })
  unfolding settled
  settled_known number session s known =
      if_case (λ (xs : List EntryFields). IsKnown (record s { sessions = xs })) (is_closed (state_of session))
      (λ e. record { each = each_filter (λ (x : EntryFields). K x.sockets) (is_other number) s.sessions known.each; opened = known.opened })
      (λ e. record {
        each = each_map (λ (x : EntryFields). K x.sockets) (λ (x : EntryFields). K x.sockets) (changed number session) s.sessions (λ x h. h) known.each;
        opened = known.opened;
      })

  -- transfers
  port_is : (now : ℕ) (server : ServerRow) (s : Stack) → (transfer_sockets rows now server s).own_port ≡ 10000 + s.opened
  unfolding transfer_sockets
  port_is now server s = refl

  opening_spoken : (now client : ℕ) (row : Option ClientRow) (server : Option ServerRow) (s : Stack) → IsKnown s → IsSpoken (opening_to rows now client row server s)
  opening_spoken now client None server s known = record { after = known; writes = tt }
  opening_spoken now client (Some row) None s known = record { after = known; writes = tt }
  opening_spoken now client (Some row) (Some server) s known =
      let ends = transfer_sockets rows now server s in
      let turn = connecting rows.tcp row.file now in
      let opened = known.opened in
      let port = port_is now server s in
      let k : K ends = opens ends (omega (arith, opened, port)) in
      let t = with_transfer ends client turn.after s in
      let entered = entry_known ends (Some client) turn.after s k known in
      spoken_of (all_done rows now ends turn.acts t) t (all_done_sent now ends turn.acts t k) (record { each = entered.each; opened = omega (arith, opened) })

  next_transfer_spoken : (now client : ℕ) (s : Stack) → IsKnown s → IsSpoken (next_transfer rows now client s)
  unfolding next_transfer
  next_transfer_spoken now client s known = opening_spoken now client (slice_get rows.clients client) (next_server s.apps client) s known

  next_of_spoken : (now : ℕ) (client : Option ℕ) (s : Stack) → IsKnown s → IsSpoken (next_of rows now client s)
  next_of_spoken now None s known = record { after = known; writes = tt }
  next_of_spoken now (Some client) s known = next_transfer_spoken now client s known

  next_after_spoken : (now : ℕ) (x : EntryFields) (session : End) (s : Stack) → IsKnown s → IsSpoken (next_after rows now x session s)
  unfolding next_after
  next_after_spoken now x session s known =
      if_case (λ (e : Effect). IsSpoken e) (ends (state_of x.session) (state_of session)) (λ t. next_of_spoken now x.client s known) (λ t. record { after = known; writes = tt })

  -- turns
  turned_spoken : (now : ℕ) (x : EntryFields) (turn : Turn End) (s : Stack) → K x.sockets → IsKnown s → IsSpoken (turned rows now x turn s)
  unfolding turned
  turned_spoken now x turn s k known =
      let t : Stack = record s { sessions = settled x.number turn.after s.sessions } in
      spoken_then (all_done rows now x.sockets turn.acts t) (next_after rows now x turn.after)
      (spoken_of (all_done rows now x.sockets turn.acts t) t (all_done_sent now x.sockets turn.acts t k) (settled_known x.number turn.after s known))
      (λ u h. next_after_spoken now x turn.after u h)

  timed_at_spoken : (now : ℕ) (x : Option EntryFields) (s : Stack) → ((y : EntryFields) → x ≡ Some y → Among y s.sessions) → IsKnown s → IsSpoken (timed_out_at rows now x s)
  timed_at_spoken now None s among known = record { after = known; writes = tt }
  timed_at_spoken now (Some x) s among known =
      if_case (λ (e : Effect). IsSpoken e) (is_due now x)
      (λ t. turned_spoken now x (at_timeout x.session now) s (each_among (λ (y : EntryFields). K y.sockets) s.sessions x known.each (among x refl)) known)
      (λ t. record { after = known; writes = tt })

  timed_out_spoken : (now number : ℕ) (s : Stack) → IsKnown s → IsSpoken (timed_out rows now number s)
  unfolding timed_out
  timed_out_spoken now number s known = timed_at_spoken now (numbered number s.sessions) s (λ y e. numbered_is number s.sessions y e) known

  all_timed_out_spoken : (now : ℕ) (numbers : List ℕ) (s : Stack) → IsKnown s → IsSpoken (all_timed_out rows now numbers s)
  all_timed_out_spoken now [] s known = record { after = known; writes = tt }
  all_timed_out_spoken now (number ∷ numbers) s known =
      spoken_then (timed_out rows now number s) (all_timed_out rows now numbers) (timed_out_spoken now number s known) (λ t h. all_timed_out_spoken now numbers t h)

  ticked_spoken : (now : ℕ) (s : Stack) → IsKnown s → IsSpoken (ticked rows now s)
  unfolding ticked
  ticked_spoken now s known = all_timed_out_spoken now (due now s.sessions) s known

  -- packets
  tcp_at_spoken : (now : ℕ) (packet : PacketFields) (segment : SegmentFields) (x : Option EntryFields) (s : Stack) → found (sockets_of packet) s.sessions ≡ x → K (sockets_of packet) → IsKnown s
      → IsSpoken (tcp_arrived_at rows now packet segment x s)
  tcp_at_spoken now packet segment (Some x) s e k known =
      let there = found_is (sockets_of packet) s.sessions x e in
      turned_spoken now x (at_segment x.session segment now) s (each_among (λ (y : EntryFields). K y.sockets) s.sessions x known.each there.0) known
  tcp_at_spoken now packet segment None s e k known =
      let turn = accepting rows.tcp segment now in
      let t = with_entry (sockets_of packet) None turn.after s in
      if_case (λ (f : Effect). IsSpoken f) (may_accept rows packet segment s)
      (λ h. spoken_of (all_done rows now (sockets_of packet) turn.acts t) t (all_done_sent now (sockets_of packet) turn.acts t k) (entry_known (sockets_of packet) None turn.after s k known))
      (λ h. record { after = known; writes = tt })

  tcp_spoken : (now : ℕ) (packet : PacketFields) (segment : SegmentFields) (s : Stack) → K (sockets_of packet) → IsKnown s → IsSpoken (tcp_arrived rows now packet segment s)
  unfolding tcp_arrived
  tcp_spoken now packet segment s k known = tcp_at_spoken now packet segment (found (sockets_of packet) s.sessions) s refl k known

  udp_spoken : (packet : PacketFields) (s : Stack) → IsKnown s → IsSpoken (udp_arrived rows packet s)
  unfolding udp_arrived
  udp_spoken packet s known =
      if_case (λ (e : Effect). IsSpoken e) (listens_on rows packet.dst_port) (λ t. record { after = known; writes = tt }) (λ t. record { after = known; writes = tt })

  home_spoken : (now : ℕ) (packet : PacketFields) (segment : Option SegmentFields) (s : Stack) → K (sockets_of packet) → IsKnown s → IsSpoken (at_home rows now packet segment s)
  home_spoken now packet None s k known = udp_spoken packet s known
  home_spoken now packet (Some segment) s k known = tcp_spoken now packet segment s k known

  at_verdict_spoken : (routes : List Route) (now : ℕ) (packet : PacketFields) (v : Verdict) (s : Stack) → K (sockets_of packet) → C (passed_on packet) → IsKnown s → IsSpoken (at_verdict rows routes now packet v s)
  at_verdict_spoken routes now packet Local s k c known = home_spoken now packet packet.segment s k known
  at_verdict_spoken routes now packet (Forward place) s k c known =
      spoken_of (by_verdict rows routes now (passed_on packet) (Forward place) s) s (verdict_sent routes now (passed_on packet) (Forward place) s c) known
  at_verdict_spoken routes now packet (DroppedBy reason) s k c known = record { after = known; writes = tt }

  arrived_spoken : (now : ℕ) (packet : PacketFields) (s : Stack) → K (sockets_of packet) → C (passed_on packet) → IsKnown s → IsSpoken (arrived rows now packet s)
  unfolding arrived
  arrived_spoken now packet s k c known = at_verdict_spoken (routes_at rows s now) now packet (received (own_addresses rows) (routes_at rows s now) packet) s k c known

  poke_spoken : (same : Bool) (s : Stack) → IsKnown s → IsSpoken (poke_unless same rows s)
  poke_spoken true s known = record { after = known; writes = tt }
  poke_spoken false s known = record { after = known; writes = (plain blank_packet refl, tt) }

  with_poke_spoken : (first : Stack) (e : Effect) → IsSpoken e → IsSpoken (with_poke rows first e)
  unfolding with_poke
  with_poke_spoken first e is =
      let same = is_same_tick (least first.sessions) (least e.stack.sessions) in
      spoken_then e (poke_unless same rows) is (λ t h. poke_spoken same t h)

  heard_spoken : (now : ℕ) (packet : PacketFields) (s : Stack) → K (sockets_of packet) → C (passed_on packet) → IsKnown s → IsSpoken (heard rows now packet s)
  unfolding heard
  heard_spoken now packet s k c known = with_poke_spoken s (arrived rows now packet s) (arrived_spoken now packet s k c known)

  -- client sessions
  tcp_turn_spoken : (now client : ℕ) (s : Stack) → IsKnown s → IsSpoken (tcp_turn rows now client s)
  unfolding tcp_turn
  tcp_turn_spoken now client s known = with_poke_spoken s (next_transfer rows now client s) (next_transfer_spoken now client s known)

  refilled_by_known : (client file : ℕ) (server : Option ServerRow) (s : Stack) → IsKnown s → IsKnown (refilled_by client file server s)
  refilled_by_known client file None s known = known
  refilled_by_known client file (Some server) s known = record { each = known.each; opened = known.opened }

  refilled_known : (client file : ℕ) (s : Stack) → IsKnown s → IsKnown (refilled client file s)
  unfolding refilled
  refilled_known client file s known =
      if_case (λ (t : Stack). IsKnown t) (nat_eq (left_of client s) 0 && nat_lt 0 file) (λ e. refilled_by_known client file (next_server s.apps client) s known) (λ e. known)

  datagram_to_spoken : (now client bytes : ℕ) (server : Option ServerRow) (s : Stack) → IsKnown s → IsSpoken (datagram_to rows now client bytes server s)
  datagram_to_spoken now client bytes None s known = record { after = known; writes = tt }
  datagram_to_spoken now client bytes (Some server) s known =
      let t = with_left client (left_of client s - bytes) s in
      spoken_of (sending rows now (datagram rows now bytes server s) t) t (sending_sent now (datagram rows now bytes server s) t (plain (datagram rows now bytes server s) refl))
      (record { each = known.each; opened = known.opened })

  datagram_spoken : (now client : ℕ) (row : ClientRow) (s : Stack) → IsKnown s → IsSpoken (datagram_sent rows now client row s)
  unfolding datagram_sent
  datagram_spoken now client row s known =
      if_case (λ (e : Effect). IsSpoken e) (nat_eq (left_of client s) 0) (λ t. record { after = known; writes = tt })
      (λ t. datagram_to_spoken now client (min row.datagram (left_of client s)) (present_server client s) s known)

  udp_turn_spoken : (now client : ℕ) (row : ClientRow) (s : Stack) → IsKnown s → IsSpoken (udp_turn rows now client row s)
  udp_turn_spoken now client row s known =
      spoken_then (datagram_sent rows now client row (refilled client row.file s)) (λ (t : Stack). quiet (refilled client row.file t))
      (datagram_spoken now client row (refilled client row.file s) (refilled_known client row.file s known))
      (λ t h. record { after = refilled_known client row.file t h; writes = tt })

  udp_sent_spoken : (now client : ℕ) (row : ClientRow) (s : Stack) → IsKnown s → IsSpoken (udp_sent rows now client row s)
  unfolding udp_sent
  udp_sent_spoken now client row s known = with_poke_spoken s (udp_turn rows now client row s) (udp_turn_spoken now client row s known)

  -- processes
  abbrev MayCome : Wake PacketFields → Type 0
  MayCome Begin = Unit {0}
  MayCome Timer = Unit {0}
  MayCome (Message channel packet) = K (sockets_of packet) × C (passed_on packet)

  receiver_spoken : (port : HostPort) (now : ℕ) (wake : Wake PacketFields) (s : Stack) → MayCome wake → IsKnown s → IsSpoken (receiver_reply rows port now wake s).effect
  receiver_spoken port now Begin s may known = record { after = known; writes = tt }
  receiver_spoken port now Timer s may known = record { after = known; writes = tt }
  receiver_spoken port now (Message channel packet) s may known = heard_spoken now packet s may.0 may.1 known

  clock_spoken : (now : ℕ) (wake : Wake PacketFields) (s : Stack) → IsKnown s → IsSpoken (clock_effect rows now wake s)
  clock_spoken now Begin s known = record { after = known; writes = tt }
  clock_spoken now Timer s known = ticked_spoken now s known
  clock_spoken now (Message channel packet) s known = record { after = known; writes = tt }

  client_turn_spoken : (tcp : Bool) (now client : ℕ) (row : ClientRow) (s : Stack) → IsKnown s → IsSpoken (client_turn tcp rows now client row s).effect
  client_turn_spoken true now client row s known = tcp_turn_spoken now client s known
  client_turn_spoken false now client row s known = udp_sent_spoken now client row s known

  client_spoken : (start client : ℕ) (row : ClientRow) (now : ℕ) (wake : Wake PacketFields) (s : Stack) → IsKnown s → IsSpoken (client_reply rows start client row now wake s).effect
  client_spoken start client row now Begin s known = record { after = known; writes = tt }
  client_spoken start client row now Timer s known = client_turn_spoken row.tcp now client row s known
  client_spoken start client row now (Message channel packet) s known = record { after = known; writes = tt }

  role_spoken : (role : Role) (now : ℕ) (wake : Wake PacketFields) (s : HostFields) → s.rows ≡ rows → MayCome wake → IsKnown s.stack → IsSpoken (role_reply s role now wake).effect
  role_spoken (Receiver port) now wake s same may known = subst (λ (r : HostRows). IsSpoken (receiver_reply r port now wake s.stack).effect) (sym same) (receiver_spoken port now wake s.stack may known)
  role_spoken Clock now wake s same may known = subst (λ (r : HostRows). IsSpoken (clock_effect r now wake s.stack)) (sym same) (clock_spoken now wake s.stack known)
  role_spoken (Client client row) now wake s same may known =
      subst (λ (r : HostRows). IsSpoken (client_reply r (slice_index s.starts client) client row now wake s.stack).effect) (sym same) (client_spoken (slice_index s.starts client) client row now wake s.stack known)

  reply_spoken : (role : Option Role) (now : ℕ) (wake : Wake PacketFields) (s : HostFields) → s.rows ≡ rows → MayCome wake → IsKnown s.stack → IsSpoken (reply_of s role now wake).effect
  reply_spoken None now wake s same may known = record { after = known; writes = tt }
  reply_spoken (Some role) now wake s same may known = role_spoken role now wake s same may known

-- ---- one action

known_ends : (wake : Wake PacketFields) (s : Stack) (xs : List EntryFields) → ((x : EntryFields) → Among x xs → Among x s.sessions) → Each (λ (x : EntryFields). AreEndsAt s wake x.sockets) xs
known_ends wake s [] there = tt
known_ends wake s (x ∷ xs) there = (inl (x, there x (inl refl), refl), known_ends wake s xs (λ y a. there y (inr a)))

may_come : (s : HostFields) (wake : Wake PacketFields) → MayCome s.rows (AreEndsAt s.stack wake) (IsBetweenEnds s.stack wake) s.stack.opened (λ ends segment k. inr (inr (ends, k, record { source = refl; source_port = refl; destination = refl; destination_port = refl })))
    (λ packet e. inr (inl e)) (λ ends port. inr (inr port)) wake
may_come s Begin = tt
may_come s Timer = tt
may_come s (Message channel packet) = (inr (inl refl), inl refl)

-- all that a host writes
pub sends_between_ends : (s : HostFields) (i now : ℕ) (wake : Wake PacketFields) → Each (Brings (IsBetweenEnds s.stack wake)) (host_reaction s i now wake).writes
unfolding host_reaction
sends_between_ends s i now wake =
    (reply_spoken s.rows (AreEndsAt s.stack wake) (IsBetweenEnds s.stack wake) s.stack.opened
    (λ ends segment k. inr (inr (ends, k, record { source = refl; source_port = refl; destination = refl; destination_port = refl })))
    (λ packet e. inr (inl e)) (λ ends port. inr (inr port))
    (slice_get (roles s.rows) i) now wake s refl (may_come s wake) (record { each = known_ends wake s.stack s.stack.sessions (λ x a. a); opened = omega arith })).writes
