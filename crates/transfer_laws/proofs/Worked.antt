-- A worked run: a transfer of 1,500 bytes over a router, what was sent to the server, and what it delivered.
use Rattle.std.proofs.Common.{◌≡◌, ℕ, zero, suc, ◌+◌, ◌<◌, ◌≤◌, List, [], ◌∷◌, ◌++◌, map, Option, Some, slice_get, refl, sym, ap, subst, ◌∙◌, inl, inr, arith, append_assoc, append-nil}
use Rattle.event_order.specs.Pending.{Among}
use Rattle.event_order.specs.Order.{comes_before}
use Rattle.event_order.specs.Machine.{Machine, World, due, stepped, after, event, all_kept}
use Rattle.event_order.proofs.Pending.{append_among}
use Rattle.sim_base.specs.declared.records.TcpState.{TcpState}
use Rattle.sim_base.specs.declared.records.TcpState.TheVariants.{LastAck}
use Rattle.sim_base.specs.SegmentFields.{SegmentFields}
use Rattle.ssf_model.specs.declared.plan.Plan.{Plan}
use Rattle.ssf_model.specs.declared.event.Event.{Event}
use Rattle.ssf_model.specs.declared.entity.Entity.{Entity}
use Rattle.ssf_model.specs.Drafts.{planned}
use Rattle.ssf_model.specs.Run.{States, machine_of, opening, world_after}
use Rattle.net_iface.specs.DropTail.{offered, after_offer}
use Rattle.ip_layer.specs.Packets.{PacketFields}
use Rattle.ip_layer.specs.Forwarding.{best_route, sent, received}
use Rattle.tcp_clock.specs.Retransmission.{first_timeout, sampled}
use Rattle.tcp_clock.specs.Congestion.{first_window, grown}
use Rattle.tcp_rules.specs.Clients.{opened, at_opening, at_syn_ack, sent as sent_out, data_stop, data_count, fin_sent, edge, measured, timing_at_send, deadline_at, at_later, at_plain, at_acknowledgment, at_ack, at_new_ack, at_last_fin}
use Rattle.tcp_rules.specs.Servers.{ServerFields, listened, at_start, at_data, kept_with, fin_with, added, at_kept, hole, at_end, at_last}
use Rattle.tcp_rules.specs.Sessions.{End, Client, Server, connecting, accepting}
use Rattle.tcp_rules.specs.Transfers.{LiesAmong}
use Rattle.traffic.specs.Progress.{at_first, next_server, after_next}
use Rattle.traffic.specs.Starts.{drawn_start}
use Rattle.host_rules.specs.declared.sockets.Sockets.{Sockets}
use Rattle.host_rules.specs.Hosts.{EntryFields, HostFields, starts_of}
use Rattle.host_rules.specs.Sending.{routes_at, own_addresses, is_down, forwarded, sending, source_to}
use Rattle.host_rules.specs.Entries.{found, numbered, due as due_sessions, least, settled}
use Rattle.host_rules.specs.Hearing.{transfer_sockets, next_transfer, next_after, turned, may_accept, tcp_arrived, arrived, timed_out}
use Rattle.host_rules.specs.Reacting.{with_poke, heard, clock_wait, ticked, tcp_turn, host_reaction}
use Rattle.host_rules.proofs.Worked.{address, net_draft}
use Rattle.transfer_laws.specs.Sent.{segments_at, segments_sent, IsServing}
use Rattle.transfer_laws.specs.Stretch.{WaitsAfter}

-- the ends of the server's session: its own, port 10 of 10.0.0.5, and its peer's, port 10000 of 10.0.0.1
abbrev ends : Sockets
ends = record { own = address 5; own_port = 10; peer = address 1; peer_port = 10000 }

abbrev shown : SegmentFields → ℕ × ℕ
shown g = (g.seq, g.length)

abbrev Hosts : Type 0
Hosts = World (States (Unit {0}) HostFields PacketFields) (Event PacketFields)

abbrev plan : Plan (Unit {0}) HostFields PacketFields
plan = planned net_draft

abbrev rules : Machine (States (Unit {0}) HostFields PacketFields) (Event PacketFields)
rules = machine_of host_reaction plan.mappings

abbrev last : ℕ
last = 200000000000

-- what is sent to it by the first n events from a world on, by going on from each world to the next
sent_from : ℕ → Hosts → List SegmentFields
sent_from zero w = []
sent_from (suc n) w = segments_at ends (due rules.key last w.pending) w.state.entities ++ sent_from n (after rules last all_kept w 1)

-- that is what the definition says
abbrev sent_after : Hosts → ℕ → List SegmentFields
sent_after w zero = []
sent_after w (suc n) = sent_after w n ++ segments_at ends (event rules last all_kept w n) (after rules last all_kept w n).state.entities

sent_is : (n : ℕ) → sent_after (opening plan) n ≡ segments_sent plan last all_kept ends n
sent_is zero = refl
sent_is (suc n) = ap (λ (gs : List SegmentFields). gs ++ segments_at ends (event rules last all_kept (opening plan) n) (after rules last all_kept (opening plan) n).state.entities) (sent_is n)

one_earlier : (w : Hosts) (n : ℕ) → after rules last all_kept w (suc n) ≡ after rules last all_kept (after rules last all_kept w 1) n
one_earlier w zero = refl
one_earlier w (suc n) = ap (λ (v : Hosts). stepped rules last all_kept v.state v.pending) (one_earlier w n)

abbrev now : Hosts → List SegmentFields
now w = segments_at ends (due rules.key last w.pending) w.state.entities

from_front : (w : Hosts) (n : ℕ) → sent_after w (suc n) ≡ now w ++ sent_after (after rules last all_kept w 1) n
from_front w zero = sym (append-nil (now w))
from_front w (suc n) =
    let next = after rules last all_kept w 1 in
    ap (λ (gs : List SegmentFields). gs ++ now (after rules last all_kept w (suc n))) (from_front w n)
    ∙ append_assoc (now w) (sent_after next n) (now (after rules last all_kept w (suc n)))
    ∙ ap (λ (v : Hosts). now w ++ (sent_after next n ++ now v)) (one_earlier w n)

sent_along : (n : ℕ) (w : Hosts) → sent_from n w ≡ sent_after w n
unfolding sent_from
sent_along zero w = refl
sent_along (suc n) w = ap (λ (gs : List SegmentFields). now w ++ gs) (sent_along n (after rules last all_kept w 1)) ∙ sym (from_front w n)

sent_by_events : (n : ℕ) → segments_sent plan last all_kept ends n ≡ sent_from n (opening plan)
sent_by_events n = sym (sent_along n (opening plan) ∙ sent_is n)

-- the SYN at 10000, an acknowledgment, the data in two segments, the FIN, and the acknowledgment of the server's FIN
what_is_sent : map shown (sent_from 60 (opening plan)) ≡ (10000, 0) ∷ (10001, 0) ∷ (10001, 1000) ∷ (11001, 500) ∷ (11501, 0) ∷ (11502, 0) ∷ []
unfolding sent_from machine_of comes_before planned starts_of drawn_start at_first host_reaction routes_at own_addresses is_down forwarded sending source_to best_route sent received offered after_offer next_server after_next arrived with_poke heard clock_wait least transfer_sockets next_transfer tcp_turn connecting opened first_timeout first_window tcp_arrived may_accept found accepting listened turned settled next_after at_opening at_syn_ack sent_out data_stop data_count fin_sent edge measured timing_at_send deadline_at sampled at_later at_plain at_acknowledgment at_ack at_new_ack grown at_last_fin at_start at_data kept_with fin_with added at_kept hole at_end at_last ticked timed_out due_sessions numbered
what_is_sent = refl

segments_go_out : map shown (segments_sent plan last all_kept ends 60) ≡ (10000, 0) ∷ (10001, 0) ∷ (10001, 1000) ∷ (11001, 500) ∷ (11501, 0) ∷ (11502, 0) ∷ []
segments_go_out = ap (λ (gs : List SegmentFields). map shown gs) (sent_by_events 60) ∙ what_is_sent

-- each server's session: its ends, its peer's first position, how many bytes it has delivered, and for what it waits
record Shown : Type 0 where
  between : Sockets
  irs : ℕ
  delivered : ℕ
  state : TcpState
  rcv : ℕ
  fin : Option ℕ

abbrev showing : Sockets → ServerFields → Shown
showing between s = record { between = between; irs = s.irs; delivered = s.delivered; state = s.state; rcv = s.rcv; fin = s.fin }

abbrev served : Sockets → End → List Shown
served between (Client c) = []
served between (Server s) = showing between s ∷ []

abbrev served_by : List EntryFields → List Shown
served_by [] = []
served_by (x ∷ xs) = served x.sockets x.session ++ served_by xs

abbrev served_at : List (Entity (Unit {0}) HostFields PacketFields) → List Shown
served_at [] = []
served_at (host ∷ hosts) = served_by host.state.stack.sessions ++ served_at hosts

-- all bytes were delivered, and the FIN behind them was passed
abbrev at_the_end : Shown
at_the_end = record { between = ends; irs = 10000; delivered = 1500; state = LastAck; rcv = 11502; fin = Some 11501 }

what_is_delivered : served_at (after rules last all_kept (opening plan) 30).state.entities ≡ at_the_end ∷ []
unfolding machine_of comes_before planned starts_of drawn_start at_first host_reaction routes_at own_addresses is_down forwarded sending source_to best_route sent received offered after_offer next_server after_next arrived with_poke heard clock_wait least transfer_sockets next_transfer tcp_turn connecting opened first_timeout first_window tcp_arrived may_accept found accepting listened turned settled next_after at_opening at_syn_ack sent_out data_stop data_count fin_sent edge measured timing_at_send deadline_at sampled at_later at_plain at_acknowledgment at_ack at_new_ack grown at_last_fin at_start at_data kept_with fin_with added at_kept hole at_end at_last ticked timed_out due_sessions numbered
what_is_delivered = refl

what_is_sent_by_then : map shown (sent_from 30 (opening plan)) ≡ (10000, 0) ∷ (10001, 0) ∷ (10001, 1000) ∷ (11001, 500) ∷ (11501, 0) ∷ (11502, 0) ∷ []
unfolding sent_from machine_of comes_before planned starts_of drawn_start at_first host_reaction routes_at own_addresses is_down forwarded sending source_to best_route sent received offered after_offer next_server after_next arrived with_poke heard clock_wait least transfer_sockets next_transfer tcp_turn connecting opened first_timeout first_window tcp_arrived may_accept found accepting listened turned settled next_after at_opening at_syn_ack sent_out data_stop data_count fin_sent edge measured timing_at_send deadline_at sampled at_later at_plain at_acknowledgment at_ack at_new_ack grown at_last_fin at_start at_data kept_with fin_with added at_kept hole at_end at_last ticked timed_out due_sessions numbered
what_is_sent_by_then = refl

segments_are_out : map shown (segments_sent plan last all_kept ends 30) ≡ (10000, 0) ∷ (10001, 0) ∷ (10001, 1000) ∷ (11001, 500) ∷ (11501, 0) ∷ (11502, 0) ∷ []
segments_are_out = ap (λ (gs : List SegmentFields). map shown gs) (sent_by_events 30) ∙ what_is_sent_by_then

-- what is shown of a server is shown of a session that some host has
record IsServedBy (seen : Shown) (xs : List EntryFields) : Type 0 where
  entry : EntryFields
  server : ServerFields
  among : Among entry xs
  session : entry.session ≡ Server server
  shows : showing entry.sockets server ≡ seen

from_session : (seen : Shown) (x : EntryFields) (xs : List EntryFields) (e : End) → x.session ≡ e → Among seen (served x.sockets e) → IsServedBy seen (x ∷ xs)
from_session seen x xs (Client c) is a = absurd a
from_session seen x xs (Server s) is (inl same) = record { entry = x; server = s; among = inl refl; session = is; shows = sym same }
from_session seen x xs (Server s) is (inr none) = absurd none

from_sessions : (seen : Shown) (xs : List EntryFields) → Among seen (served_by xs) → IsServedBy seen xs
from_sessions seen [] a = absurd a
from_sessions seen (x ∷ xs) a = elim (append_among seen (served x.sockets x.session) (served_by xs) a) [
  | inl here ↦ from_session seen x xs x.session refl here
  | inr later ↦
      let rest = from_sessions seen xs later in
      record { entry = rest.entry; server = rest.server; among = inr rest.among; session = rest.session; shows = rest.shows }
]

record IsServedAt (seen : Shown) (hosts : List (Entity (Unit {0}) HostFields PacketFields)) : Type 0 where
  number : ℕ
  host : Entity (Unit {0}) HostFields PacketFields
  at : slice_get hosts number ≡ Some host
  by : IsServedBy seen host.state.stack.sessions

from_hosts : (seen : Shown) (hosts : List (Entity (Unit {0}) HostFields PacketFields)) → Among seen (served_at hosts) → IsServedAt seen hosts
from_hosts seen [] a = absurd a
from_hosts seen (host ∷ hosts) a = elim (append_among seen (served_by host.state.stack.sessions) (served_at hosts) a) [
  | inl here ↦ record { number = 0; host = host; at = refl; by = from_sessions seen host.state.stack.sessions here }
  | inr later ↦
      let rest = from_hosts seen hosts later in record { number = suc rest.number; host = rest.host; at = rest.at; by = rest.by }
]

-- after 30 events this server serves, in the words of the laws
server_serves : (x : EntryFields) × (server : ServerFields) × IsServing plan last all_kept 30 x server × (showing x.sockets server ≡ at_the_end)
server_serves =
    let hosts = (world_after host_reaction plan last all_kept 30).state.entities in
    let found = from_hosts at_the_end hosts (subst (λ (seen : List Shown). Among at_the_end seen) (sym what_is_delivered) (inl refl)) in (
      found.by.entry,
      found.by.server,
      record { number = found.number; host = found.host; at = found.at; among = found.by.among; session = found.by.session },
      found.by.shows,
    )

-- it waits for the position right after the FIN, which stands right after the bytes
it_waits_after : WaitsAfter LastAck server_serves.1
it_waits_after =
    let shows = server_serves.3 in
    let first : server_serves.1.irs ≡ 10000 = ap (λ (seen : Shown). seen.irs) shows in
    let bytes : server_serves.1.delivered ≡ 1500 = ap (λ (seen : Shown). seen.delivered) shows in
    let next : server_serves.1.rcv ≡ 11502 = ap (λ (seen : Shown). seen.rcv) shows in
    let end : server_serves.1.fin ≡ Some 11501 = ap (λ (seen : Shown). seen.fin) shows in
    let place : 11501 ≡ server_serves.1.irs + 1 + server_serves.1.delivered = omega (arith, first, bytes) in
    (omega (arith, first, bytes, next), end ∙ ap (λ p. Some p) place)

-- a position lies among segments of which one is shown with it
lies_shown : (position seq count : ℕ) (gs : List SegmentFields) → Among (seq, count) (map shown gs) → seq ≤ position → position < seq + count → LiesAmong position gs
lies_shown position seq count [] a low high = absurd a
lies_shown position seq count (g ∷ gs) (inl same) low high =
    let from : seq ≡ g.seq = ap (λ (p : ℕ × ℕ). p.0) same in
    let many : count ≡ g.length = ap (λ (p : ℕ × ℕ). p.1) same in
    inl (omega (arith, low, from), omega (arith, high, from, many))
lies_shown position seq count (g ∷ gs) (inr later) low high = inr (lies_shown position seq count gs later low high)

-- the bytes that it has delivered lie in the two segments of data
first_bytes_lie : (position : ℕ) → 10000 < position → position ≤ 11000 → LiesAmong position (segments_sent plan last all_kept ends 30)
first_bytes_lie position low high =
    lies_shown position 10001 1000 (segments_sent plan last all_kept ends 30)
    (subst (λ (shows : List (ℕ × ℕ)). Among (10001, 1000) shows) (sym segments_are_out) (inr (inr (inl refl)))) (omega (arith, low)) (omega (arith, high))

last_bytes_lie : (position : ℕ) → 11000 < position → position ≤ 11500 → LiesAmong position (segments_sent plan last all_kept ends 30)
last_bytes_lie position low high =
    lies_shown position 11001 500 (segments_sent plan last all_kept ends 30)
    (subst (λ (shows : List (ℕ × ℕ)). Among (11001, 500) shows) (sym segments_are_out) (inr (inr (inr (inl refl))))) (omega (arith, low)) (omega (arith, high))
