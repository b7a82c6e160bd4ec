-- What an action of a host makes of each of its sessions: a property that turns keep holds on.
use Rattle.std.proofs.Common.{◌≡◌, ℕ, ◌+◌, ◌-◌, ◌<◌, min, Bool, true, false, ◌&&◌, cond, Option, Some, None, List, [], ◌∷◌, nat_eq, refl, subst, sym, ◌∙◌, arith}
use Rattle.std.specs.Prelude.{slice_get, slice_index, nat_lt}
use Rattle.std.specs.List.{find}
use Rattle.event_order.specs.Pending.{Among}
use Rattle.sim_base.specs.SegmentFields.{SegmentFields}
use Rattle.sim_base.specs.declared.records.ClientRow.{ClientRow}
use Rattle.sim_base.specs.declared.records.ServerRow.{ServerRow}
use Rattle.spf_routes.specs.declared.graph.Route.{Route}
use Rattle.spf_routes.specs.Best.{route_at}
use Rattle.ssf_model.specs.declared.wait.Wake.{Wake}
use Rattle.ssf_model.specs.declared.wait.Wake.TheVariants.{Begin, Timer, Message}
use Rattle.ssf_model.specs.Reaction.{Each}
use Rattle.net_iface.specs.InterfaceFields.{InterfaceFields}
use Rattle.net_iface.specs.DropTail.{offered, after_offer}
use Rattle.net_iface.specs.declared.interface.Offer.{Offer}
use Rattle.net_iface.specs.declared.interface.Offer.TheVariants.{Sent, Dropped}
use Rattle.ip_layer.specs.Packets.{PacketFields}
use Rattle.ip_layer.specs.Forwarding.{received, sent, passed_on}
use Rattle.ip_layer.specs.declared.verdict.Verdict.{Verdict}
use Rattle.ip_layer.specs.declared.verdict.Verdict.TheVariants.{Local, Forward, Dropped as DroppedBy}
use Rattle.tcp_rules.specs.declared.records.Act.{Act}
use Rattle.tcp_rules.specs.declared.records.Act.TheVariants.{Entered, Delivered, Send}
use Rattle.tcp_rules.specs.Segments.{Turn}
use Rattle.tcp_rules.specs.Clients.{ClientFields}
use Rattle.tcp_rules.specs.Sessions.{End, Client as ClientEnd, connecting, accepting, at_segment, at_timeout, state_of}
use Rattle.traffic.specs.Progress.{next_server}
use Rattle.tcp_rules.proofs.Cases.{both_left}
use Rattle.host_rules.specs.declared.rows.HostRows.{HostRows}
use Rattle.host_rules.specs.declared.rows.HostPort.{HostPort}
use Rattle.host_rules.specs.declared.sockets.Sockets.{Sockets}
use Rattle.host_rules.specs.Hosts.{EntryFields, Stack, HostFields}
use Rattle.host_rules.specs.Effects.{Effect, and_then}
use Rattle.host_rules.specs.Sending.{routes_at, own_addresses, second_of, is_down, answered, with_interface, offering, over_link, from_port, next_hop, forwarded, by_verdict, sending, packet_of, done, all_done}
use Rattle.host_rules.specs.Entries.{same_sockets, found, numbered, is_due, due, least, is_other, is_closed, settled, changed, ends}
use Rattle.host_rules.specs.Hearing.{entry_of, with_entry, with_transfer, transfer_sockets, opening_to, next_transfer, next_of, next_after, turned, listens_on, udp_arrived, may_accept, sockets_of, tcp_arrived_at, tcp_arrived, at_home, at_verdict, arrived, timed_out_at, timed_out, all_timed_out}
use Rattle.host_rules.specs.Reacting.{Role, Receiver, Clock, Client, roles, is_same_tick, poke_unless, with_poke, heard, receiver_reply, ticked, clock_effect, left_of, with_left, refilled_by, refilled, datagram, present_server, datagram_to, datagram_sent, udp_turn, tcp_turn, udp_sent, client_turn, client_reply, role_reply, reply_of, host_reaction}
use Rattle.host_rules.specs.Limits.{EachPair}
use Rattle.host_rules.proofs.Tables.{Rises, changed_each}
use Rattle.host_rules.proofs.Listing.{if_case, each_append, each_more, each_map, each_filter, each_among, found_among, pairs_append, pairs_map, pairs_filter}

-- the sessions have rising numbers, which were given, and P holds of each
pub record IsHeld (P : EntryFields → Type 0) (s : Stack) : Type 0 where
  pub rising : EachPair Rises s.sessions
  pub below : Each (λ (x : EntryFields). x.number < s.made) s.sessions
  pub each : Each P s.sessions

-- ---- what sends packets leaves the sessions

record IsSame (t s : Stack) : Type 0 where
  sessions : t.sessions ≡ s.sessions
  made : t.made ≡ s.made

same_self : (s : Stack) → IsSame s s
same_self s = record { sessions = refl; made = refl }

same_then : (u t s : Stack) → IsSame u t → IsSame t s → IsSame u s
same_then u t s first next = record { sessions = first.sessions ∙ next.sessions; made = first.made ∙ next.made }

held_same : (P : EntryFields → Type 0) (t s : Stack) → IsSame t s → IsHeld P s → IsHeld P t
held_same P t s same held = record {
  rising = subst (λ (xs : List EntryFields). EachPair Rises xs) (sym same.sessions) held.rising;
  below = subst (λ (xs : List EntryFields). Each (λ (x : EntryFields). x.number < t.made) xs) (sym same.sessions)
      (subst (λ (made : ℕ). Each (λ (x : EntryFields). x.number < made) s.sessions) (sym same.made) held.below);
  each = subst (λ (xs : List EntryFields). Each P xs) (sym same.sessions) held.each;
}

answered_same : (port : HostPort) (next channel : ℕ) (packet : PacketFields) (o : Offer) (s : Stack) → IsSame (answered port next channel packet o s).stack s
answered_same port next channel packet (Sent ticks) s = same_self s
answered_same port next channel packet Dropped s = same_self s

offering_same : (port : HostPort) (place next channel now : ℕ) (packet : PacketFields) (i : Option InterfaceFields) (s : Stack) → IsSame (offering port place next channel now packet i s).stack s
offering_same port place next channel now packet None s = same_self s
offering_same port place next channel now packet (Some i) s =
    let t = with_interface place (after_offer i packet.bytes now) s in
    same_then (answered port next channel packet (offered i packet.bytes now) t).stack t s
    (answered_same port next channel packet (offered i packet.bytes now) t) (record { sessions = refl; made = refl })

over_link_same : (port : HostPort) (place next now : ℕ) (packet : PacketFields) (channel : Option ℕ) (s : Stack) → IsSame (over_link port place next now packet channel s).stack s
over_link_same port place next now packet None s = same_self s
over_link_same port place next now packet (Some channel) s =
    if_case (λ (f : Effect). IsSame f.stack s) (is_down port now) (λ t. same_self s)
    (λ t. offering_same port place next channel now packet (slice_get s.interfaces place) s)

from_port_same : (port : Option HostPort) (place next now : ℕ) (packet : PacketFields) (s : Stack) → IsSame (from_port port place next now packet s).stack s
from_port_same None place next now packet s = same_self s
from_port_same (Some port) place next now packet s = over_link_same port place next now packet (second_of port.outs next) s

forwarded_same : (rows : HostRows) (route : Route) (now : ℕ) (packet : PacketFields) (s : Stack) → IsSame (forwarded rows route now packet s).stack s
unfolding forwarded
forwarded_same rows route now packet s = from_port_same (slice_get rows.ports route.interface) route.interface (next_hop route packet) now packet s

verdict_same : (rows : HostRows) (routes : List Route) (now : ℕ) (packet : PacketFields) (v : Verdict) (s : Stack) → IsSame (by_verdict rows routes now packet v s).stack s
verdict_same rows routes now packet Local s = same_self s
verdict_same rows routes now packet (Forward place) s = forwarded_same rows (route_at routes place) now packet s
verdict_same rows routes now packet (DroppedBy reason) s = same_self s

sending_same : (rows : HostRows) (now : ℕ) (packet : PacketFields) (s : Stack) → IsSame (sending rows now packet s).stack s
unfolding sending
sending_same rows now packet s =
    verdict_same rows (routes_at rows s now) now packet (sent (own_addresses rows) (routes_at rows s now) packet) s

done_same : (rows : HostRows) (now : ℕ) (sockets : Sockets) (act : Act) (s : Stack) → IsSame (done rows now sockets act s).stack s
done_same rows now sockets (Entered state) s = same_self s
done_same rows now sockets (Delivered bytes) s = same_self s
done_same rows now sockets (Send segment) s = sending_same rows now (packet_of sockets segment) s

all_done_same : (rows : HostRows) (now : ℕ) (sockets : Sockets) (acts : List Act) (s : Stack) → IsSame (all_done rows now sockets acts s).stack s
all_done_same rows now sockets [] s = same_self s
all_done_same rows now sockets (act ∷ acts) s =
    let t = (done rows now sockets act s).stack in
    same_then (all_done rows now sockets acts t).stack t s (all_done_same rows now sockets acts t) (done_same rows now sockets act s)

poke_same : (same : Bool) (rows : HostRows) (s : Stack) → IsSame (poke_unless same rows s).stack s
poke_same true rows s = same_self s
poke_same false rows s = same_self s

-- ---- sessions that were found

found_true : {A : Type 0} (test : A → Bool) (xs : List A) (x : A) → find test xs ≡ Some x → test x ≡ true
found_true test [] x e = absurd (cc)
found_true test (y ∷ ys) x e = head_case (test y) refl e (found_true test ys x)
  where
    head_case : (b : Bool) → test y ≡ b → cond b (Some y) (find test ys) ≡ Some x → (find test ys ≡ Some x → test x ≡ true) → test x ≡ true
    head_case true is e rest = let same : y ≡ x = cc in subst (λ z. test z ≡ true) same is
    head_case false is e rest = rest e

pub found_is : (sockets : Sockets) (xs : List EntryFields) (x : EntryFields) → found sockets xs ≡ Some x → Among x xs × (same_sockets x.sockets sockets ≡ true)
unfolding found
found_is sockets xs x e =
    (found_among (λ (y : EntryFields). same_sockets y.sockets sockets) xs x e, found_true (λ (y : EntryFields). same_sockets y.sockets sockets) xs x e)

pub numbered_is : (number : ℕ) (xs : List EntryFields) (x : EntryFields) → numbered number xs ≡ Some x → Among x xs
unfolding numbered
numbered_is number xs x e = found_among (λ (y : EntryFields). nat_eq y.number number) xs x e

-- ---- a property that turns keep

-- P holds of what the host opens, and stays at a timeout
pub record IsKeptHere (P : EntryFields → Type 0) : Type 0 where
  pub opened : (x : EntryFields) (c : ClientFields) → x.session ≡ ClientEnd c → P x
  pub timed : (x : EntryFields) (now : ℕ) → P x → P (record x { session = (at_timeout x.session now).after })

-- P stays at the segment of this packet, and holds of a session that it opens, as a SYN does
pub record IsKeptAt (rows : HostRows) (P : EntryFields → Type 0) (now : ℕ) (packet : PacketFields) : Type 0 where
  pub heard : (x : EntryFields) (segment : SegmentFields) → packet.segment ≡ Some segment → same_sockets x.sockets (sockets_of packet) ≡ true
      → P x → P (record x { session = (at_segment x.session segment now).after })
  pub accepted : (number : ℕ) (segment : SegmentFields) → packet.segment ≡ Some segment → segment.syn ≡ true
      → P (record { number = number; sockets = sockets_of packet; client = None; session = (accepting rows.tcp segment now).after })

abbrev pub IsKeptBy : HostRows → (EntryFields → Type 0) → ℕ → Wake PacketFields → Type 0
IsKeptBy rows P now Begin = Unit {0}
IsKeptBy rows P now Timer = Unit {0}
IsKeptBy rows P now (Message channel packet) = IsKeptAt rows P now packet

module _ (rows : HostRows) (P : EntryFields → Type 0) (keeps : IsKeptHere P) where
  held_then : (e : Effect) (f : Stack → Effect) → IsHeld P e.stack → ((t : Stack) → IsHeld P t → IsHeld P (f t).stack) → IsHeld P (and_then e f).stack
  held_then e f held next = next e.stack held

  entry_held : (sockets : Sockets) (client : Option ℕ) (session : End) (s : Stack) → P (entry_of sockets client session s) → IsHeld P s → IsHeld P (with_entry sockets client session s)
  entry_held sockets client session s new held =
      let x = entry_of sockets client session s in
      record {
        rising = pairs_append Rises s.sessions x held.rising held.below;
        below = each_append (λ (y : EntryFields). y.number < s.made + 1) s.sessions (x ∷ [])
            (each_more (λ (y : EntryFields). y.number < s.made) (λ (y : EntryFields). y.number < s.made + 1) s.sessions (λ y h. omega (arith, h)) held.below)
            (omega arith, tt);
        each = each_append P s.sessions (x ∷ []) held.each (new, tt);
      }

  settled_held : (x : EntryFields) (session : End) (s : Stack) → Among x s.sessions → P (record x { session = session }) → IsHeld P s
      → IsHeld P (record s { sessions = settled x.number session s.sessions })
  unfolding settled
  settled_held x session s among new held =
      if_case (λ (xs : List EntryFields). IsHeld P (record s { sessions = xs })) (is_closed (state_of session))
      (λ e. record {
        rising = pairs_filter Rises (is_other x.number) s.sessions held.rising;
        below = each_filter (λ (y : EntryFields). y.number < s.made) (is_other x.number) s.sessions held.below;
        each = each_filter P (is_other x.number) s.sessions held.each;
      })
      (λ e. record {
        rising = pairs_map Rises (changed x.number session) s.sessions (λ y z h. h) held.rising;
        below = each_map (λ (y : EntryFields). y.number < s.made) (λ (y : EntryFields). y.number < s.made) (changed x.number session) s.sessions (λ y h. h) held.below;
        each = changed_each P x session s.sessions held.rising held.each among new;
      })

  all_done_held : (now : ℕ) (sockets : Sockets) (acts : List Act) (s : Stack) → IsHeld P s → IsHeld P (all_done rows now sockets acts s).stack
  all_done_held now sockets acts s held = held_same P (all_done rows now sockets acts s).stack s (all_done_same rows now sockets acts s) held

  -- transfers
  connecting_is : (row : ClientRow) (now : ℕ) → (c : ClientFields) × ((connecting rows.tcp row.file now).after ≡ ClientEnd c)
  unfolding connecting
  connecting_is row now = (_, refl)

  opening_held : (now client : ℕ) (row : Option ClientRow) (server : Option ServerRow) (s : Stack) → IsHeld P s → IsHeld P (opening_to rows now client row server s).stack
  opening_held now client None server s held = held
  opening_held now client (Some row) None s held = held
  opening_held now client (Some row) (Some server) s held =
      let sockets = transfer_sockets rows now server s in
      let turn = connecting rows.tcp row.file now in
      let is = connecting_is row now in
      let entered = entry_held sockets (Some client) turn.after s (keeps.opened (entry_of sockets (Some client) turn.after s) is.0 is.1) held in
      all_done_held now sockets turn.acts (with_transfer sockets client turn.after s)
      (record { rising = entered.rising; below = entered.below; each = entered.each })

  next_transfer_held : (now client : ℕ) (s : Stack) → IsHeld P s → IsHeld P (next_transfer rows now client s).stack
  unfolding next_transfer
  next_transfer_held now client s held = opening_held now client (slice_get rows.clients client) (next_server s.apps client) s held

  next_of_held : (now : ℕ) (client : Option ℕ) (s : Stack) → IsHeld P s → IsHeld P (next_of rows now client s).stack
  next_of_held now None s held = held
  next_of_held now (Some client) s held = next_transfer_held now client s held

  next_after_held : (now : ℕ) (x : EntryFields) (session : End) (s : Stack) → IsHeld P s → IsHeld P (next_after rows now x session s).stack
  unfolding next_after
  next_after_held now x session s held =
      if_case (λ (e : Effect). IsHeld P e.stack) (ends (state_of x.session) (state_of session)) (λ t. next_of_held now x.client s held) (λ t. held)

  -- turns
  turned_held : (now : ℕ) (x : EntryFields) (turn : Turn End) (s : Stack) → Among x s.sessions → P (record x { session = turn.after }) → IsHeld P s → IsHeld P (turned rows now x turn s).stack
  unfolding turned
  turned_held now x turn s among new held =
      let after : Stack = record s { sessions = settled x.number turn.after s.sessions } in
      held_then (all_done rows now x.sockets turn.acts after) (next_after rows now x turn.after)
      (all_done_held now x.sockets turn.acts after (settled_held x turn.after s among new held))
      (λ t h. next_after_held now x turn.after t h)

  timed_at_held : (now : ℕ) (x : Option EntryFields) (s : Stack) → ((y : EntryFields) → x ≡ Some y → Among y s.sessions) → IsHeld P s → IsHeld P (timed_out_at rows now x s).stack
  timed_at_held now None s among held = held
  timed_at_held now (Some x) s among held =
      if_case (λ (e : Effect). IsHeld P e.stack) (is_due now x)
      (λ t. turned_held now x (at_timeout x.session now) s (among x refl) (keeps.timed x now (each_among P s.sessions x held.each (among x refl))) held)
      (λ t. held)

  timed_out_held : (now number : ℕ) (s : Stack) → IsHeld P s → IsHeld P (timed_out rows now number s).stack
  unfolding timed_out
  timed_out_held now number s held = timed_at_held now (numbered number s.sessions) s (λ y e. numbered_is number s.sessions y e) held

  all_timed_out_held : (now : ℕ) (numbers : List ℕ) (s : Stack) → IsHeld P s → IsHeld P (all_timed_out rows now numbers s).stack
  all_timed_out_held now [] s held = held
  all_timed_out_held now (number ∷ numbers) s held =
      held_then (timed_out rows now number s) (all_timed_out rows now numbers) (timed_out_held now number s held) (λ t h. all_timed_out_held now numbers t h)

  ticked_held : (now : ℕ) (s : Stack) → IsHeld P s → IsHeld P (ticked rows now s).stack
  unfolding ticked
  ticked_held now s held = all_timed_out_held now (due now s.sessions) s held

  -- packets
  accepted_syn : (packet : PacketFields) (segment : SegmentFields) (s : Stack) → may_accept rows packet segment s ≡ true → segment.syn ≡ true
  unfolding may_accept
  accepted_syn packet segment s may = both_left segment.syn _ may

  tcp_at_held : (now : ℕ) (packet : PacketFields) (segment : SegmentFields) (x : Option EntryFields) (s : Stack) → found (sockets_of packet) s.sessions ≡ x → packet.segment ≡ Some segment
      → IsKeptAt rows P now packet → IsHeld P s → IsHeld P (tcp_arrived_at rows now packet segment x s).stack
  tcp_at_held now packet segment (Some x) s e is at held =
      let there = found_is (sockets_of packet) s.sessions x e in
      turned_held now x (at_segment x.session segment now) s there.0 (at.heard x segment is there.1 (each_among P s.sessions x held.each there.0)) held
  tcp_at_held now packet segment None s e is at held =
      let turn = accepting rows.tcp segment now in
      if_case (λ (f : Effect). IsHeld P f.stack) (may_accept rows packet segment s)
      (λ t. all_done_held now (sockets_of packet) turn.acts (with_entry (sockets_of packet) None turn.after s)
      (entry_held (sockets_of packet) None turn.after s (at.accepted s.made segment is (accepted_syn packet segment s t)) held))
      (λ t. held)

  tcp_held : (now : ℕ) (packet : PacketFields) (segment : SegmentFields) (s : Stack) → packet.segment ≡ Some segment → IsKeptAt rows P now packet → IsHeld P s → IsHeld P (tcp_arrived rows now packet segment s).stack
  unfolding tcp_arrived
  tcp_held now packet segment s is at held = tcp_at_held now packet segment (found (sockets_of packet) s.sessions) s refl is at held

  udp_held : (packet : PacketFields) (s : Stack) → IsHeld P s → IsHeld P (udp_arrived rows packet s).stack
  unfolding udp_arrived
  udp_held packet s held = if_case (λ (e : Effect). IsHeld P e.stack) (listens_on rows packet.dst_port) (λ t. held) (λ t. held)

  home_held : (now : ℕ) (packet : PacketFields) (segment : Option SegmentFields) (s : Stack) → packet.segment ≡ segment → IsKeptAt rows P now packet → IsHeld P s → IsHeld P (at_home rows now packet segment s).stack
  home_held now packet None s is at held = udp_held packet s held
  home_held now packet (Some segment) s is at held = tcp_held now packet segment s is at held

  at_verdict_held : (routes : List Route) (now : ℕ) (packet : PacketFields) (v : Verdict) (s : Stack) → IsKeptAt rows P now packet → IsHeld P s → IsHeld P (at_verdict rows routes now packet v s).stack
  at_verdict_held routes now packet Local s at held = home_held now packet packet.segment s refl at held
  at_verdict_held routes now packet (Forward place) s at held =
      held_same P (by_verdict rows routes now (passed_on packet) (Forward place) s).stack s (verdict_same rows routes now (passed_on packet) (Forward place) s) held
  at_verdict_held routes now packet (DroppedBy reason) s at held = held

  arrived_held : (now : ℕ) (packet : PacketFields) (s : Stack) → IsKeptAt rows P now packet → IsHeld P s → IsHeld P (arrived rows now packet s).stack
  unfolding arrived
  arrived_held now packet s at held =
      at_verdict_held (routes_at rows s now) now packet (received (own_addresses rows) (routes_at rows s now) packet) s at held

  with_poke_held : (before : Stack) (e : Effect) → IsHeld P e.stack → IsHeld P (with_poke rows before e).stack
  unfolding with_poke
  with_poke_held before e held =
      let same = is_same_tick (least before.sessions) (least e.stack.sessions) in
      held_same P (poke_unless same rows e.stack).stack e.stack (poke_same same rows e.stack) held

  heard_held : (now : ℕ) (packet : PacketFields) (s : Stack) → IsKeptAt rows P now packet → IsHeld P s → IsHeld P (heard rows now packet s).stack
  unfolding heard
  heard_held now packet s at held = with_poke_held s (arrived rows now packet s) (arrived_held now packet s at held)

  -- client sessions
  tcp_turn_held : (now client : ℕ) (s : Stack) → IsHeld P s → IsHeld P (tcp_turn rows now client s).stack
  unfolding tcp_turn
  tcp_turn_held now client s held = with_poke_held s (next_transfer rows now client s) (next_transfer_held now client s held)

  refilled_by_same : (client file : ℕ) (server : Option ServerRow) (s : Stack) → IsSame (refilled_by client file server s) s
  refilled_by_same client file None s = same_self s
  refilled_by_same client file (Some server) s = record { sessions = refl; made = refl }

  refilled_same : (client file : ℕ) (s : Stack) → IsSame (refilled client file s) s
  unfolding refilled
  refilled_same client file s =
      if_case (λ (t : Stack). IsSame t s) (nat_eq (left_of client s) 0 && nat_lt 0 file)
      (λ e. refilled_by_same client file (next_server s.apps client) s) (λ e. same_self s)

  datagram_to_same : (now client bytes : ℕ) (server : Option ServerRow) (s : Stack) → IsSame (datagram_to rows now client bytes server s).stack s
  datagram_to_same now client bytes None s = same_self s
  datagram_to_same now client bytes (Some server) s =
      let t = with_left client (left_of client s - bytes) s in
      same_then (sending rows now (datagram rows now bytes server s) t).stack t s (sending_same rows now (datagram rows now bytes server s) t) (record { sessions = refl; made = refl })

  datagram_same : (now client : ℕ) (row : ClientRow) (s : Stack) → IsSame (datagram_sent rows now client row s).stack s
  unfolding datagram_sent
  datagram_same now client row s =
      if_case (λ (e : Effect). IsSame e.stack s) (nat_eq (left_of client s) 0) (λ t. same_self s)
      (λ t. datagram_to_same now client (min row.datagram (left_of client s)) (present_server client s) s)

  udp_turn_same : (now client : ℕ) (row : ClientRow) (s : Stack) → IsSame (udp_turn rows now client row s).stack s
  udp_turn_same now client row s =
      let t = refilled client row.file s in
      let u = (datagram_sent rows now client row t).stack in
      same_then (refilled client row.file u) u s (refilled_same client row.file u) (same_then u t s (datagram_same now client row t) (refilled_same client row.file s))

  udp_sent_held : (now client : ℕ) (row : ClientRow) (s : Stack) → IsHeld P s → IsHeld P (udp_sent rows now client row s).stack
  unfolding udp_sent
  udp_sent_held now client row s held =
      with_poke_held s (udp_turn rows now client row s) (held_same P (udp_turn rows now client row s).stack s (udp_turn_same now client row s) held)

  -- processes
  receiver_held : (port : HostPort) (now : ℕ) (wake : Wake PacketFields) (s : Stack) → IsKeptBy rows P now wake → IsHeld P s → IsHeld P (receiver_reply rows port now wake s).effect.stack
  receiver_held port now Begin s by held = held
  receiver_held port now Timer s by held = held
  receiver_held port now (Message channel packet) s by held = heard_held now packet s by held

  clock_held : (now : ℕ) (wake : Wake PacketFields) (s : Stack) → IsHeld P s → IsHeld P (clock_effect rows now wake s).stack
  clock_held now Begin s held = held
  clock_held now Timer s held = ticked_held now s held
  clock_held now (Message channel packet) s held = held

  client_turn_held : (tcp : Bool) (now client : ℕ) (row : ClientRow) (s : Stack) → IsHeld P s → IsHeld P (client_turn tcp rows now client row s).effect.stack
  client_turn_held true now client row s held = tcp_turn_held now client s held
  client_turn_held false now client row s held = udp_sent_held now client row s held

  client_held : (start client : ℕ) (row : ClientRow) (now : ℕ) (wake : Wake PacketFields) (s : Stack) → IsHeld P s → IsHeld P (client_reply rows start client row now wake s).effect.stack
  client_held start client row now Begin s held = held
  client_held start client row now Timer s held = client_turn_held row.tcp now client row s held
  client_held start client row now (Message channel packet) s held = held

role_held : (P : EntryFields → Type 0) (s : HostFields) (role : Role) (now : ℕ) (wake : Wake PacketFields) → IsKeptHere P → IsKeptBy s.rows P now wake → IsHeld P s.stack
    → IsHeld P (role_reply s role now wake).effect.stack
role_held P s (Receiver port) now wake keeps by held = receiver_held s.rows P keeps port now wake s.stack by held
role_held P s Clock now wake keeps by held = clock_held s.rows P keeps now wake s.stack held
role_held P s (Client client row) now wake keeps by held = client_held s.rows P keeps (slice_index s.starts client) client row now wake s.stack held

reply_held : (P : EntryFields → Type 0) (s : HostFields) (role : Option Role) (now : ℕ) (wake : Wake PacketFields) → IsKeptHere P → IsKeptBy s.rows P now wake → IsHeld P s.stack
    → IsHeld P (reply_of s role now wake).effect.stack
reply_held P s None now wake keeps by held = held
reply_held P s (Some role) now wake keeps by held = role_held P s role now wake keeps by held

-- one action
pub reaction_held : (P : EntryFields → Type 0) (s : HostFields) (i now : ℕ) (wake : Wake PacketFields) → IsKeptHere P → IsKeptBy s.rows P now wake → IsHeld P s.stack
    → IsHeld P (host_reaction s i now wake).state.stack
unfolding host_reaction
reaction_held P s i now wake keeps by held = reply_held P s (slice_get (roles s.rows) i) now wake keeps by held
