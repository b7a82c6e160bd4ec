-- Effects that keep a host in range and write on its entity's channels: packets that are sent.
use Rattle.std.proofs.Common.{◌≡◌, ℕ, zero, suc, ◌+◌, ◌≤◌, Bool, true, false, ◌||◌, Option, Some, None, List, [], ◌∷◌, length, nat_eq, refl, ap, subst, arith, if◌then◌else◌}
use Rattle.std.specs.Prelude.{slice_get, slice_set}
use Rattle.std.specs.List.{filter_map, cons_option}
use Rattle.std.specs.Option.{unwrap_or}
use Rattle.std.proofs.lemmas.Bool.{leb-true, eq-eqb}
use Rattle.std.proofs.lemmas.List.{length-append}
use Rattle.event_order.specs.Pending.{Among}
use Rattle.sim_base.specs.SegmentFields.{SegmentFields, IsSegment}
use Rattle.spf_routes.specs.declared.graph.Route.{Route}
use Rattle.spf_routes.specs.Best.{route_at}
use Rattle.ssf_model.specs.declared.event.Line.{Line}
use Rattle.ssf_model.specs.Reaction.{Each, LatestTime, LongestDelay, IsOwnWrite}
use Rattle.net_iface.specs.InterfaceFields.{InterfaceFields, IsRated}
use Rattle.net_iface.specs.DropTail.{offered, after_offer, has_room, delay, wait, queued, IfSent}
use Rattle.net_iface.specs.declared.interface.Offer.{Offer}
use Rattle.net_iface.specs.declared.interface.Offer.TheVariants.{Sent, Dropped}
use Rattle.net_iface.proofs.DelayBounds.{delay_short}
use Rattle.ip_layer.specs.Packets.{PacketFields, IsPacket}
use Rattle.ip_layer.specs.Forwarding.{has_address, best_route, sent, passed_on}
use Rattle.ip_layer.specs.declared.verdict.Verdict.{Verdict}
use Rattle.ip_layer.specs.declared.verdict.Verdict.TheVariants.{Local, Forward, Dropped as DroppedBy}
use Rattle.tcp_rules.specs.declared.records.Act.{Act}
use Rattle.tcp_rules.specs.declared.records.Act.TheVariants.{Entered, Delivered, Send}
use Rattle.tcp_rules.specs.Segments.{sent_of, Each as EachSegment}
use Rattle.host_rules.specs.declared.rows.HostRows.{HostRows}
use Rattle.host_rules.specs.declared.rows.HostPort.{HostPort}
use Rattle.host_rules.specs.Hosts.{Sockets, Stack}
use Rattle.host_rules.specs.Effects.{Effect, quiet, telling, and_then}
use Rattle.host_rules.specs.Sending.{routes_at, own_addresses, second_of, is_down, answered, with_interface, offering, over_link, from_port, next_hop, forwarded, by_verdict, sending, address_of, source_by, source_to, packet_of, done, all_done}
use Rattle.host_rules.specs.Sources.{IsOwnAddress, IsOwn}
use Rattle.host_rules.specs.Limits.{AreRows, HasOuts, IsInterfaceOf, AreInterfaces, IsStack}
use Rattle.host_rules.proofs.Listing.{if_case, each_append, each_at}

-- the host is in range afterwards, and at most so many writes go out, each on a channel of the entity, in time, with a
-- packet of which C holds
pub record IsLawful (rows : HostRows) (C : PacketFields → Type 0) (outs : List ℕ) (most : ℕ) (e : Effect) : Type 0 where
  pub stack : IsStack rows e.stack
  pub writes : Each (IsOwnWrite C outs) e.writes
  pub few : length e.writes ≤ most

pub lawful_quiet : (rows : HostRows) (C : PacketFields → Type 0) (outs : List ℕ) (most : ℕ) (s : Stack) → IsStack rows s → IsLawful rows C outs most (quiet s)
lawful_quiet rows C outs most s is = record { stack = is; writes = tt; few = omega arith }

pub lawful_telling : (rows : HostRows) (C : PacketFields → Type 0) (outs : List ℕ) (most : ℕ) (line : Line) (s : Stack) → IsStack rows s → IsLawful rows C outs most (telling line s)
lawful_telling rows C outs most line s is = record { stack = is; writes = tt; few = omega arith }

pub lawful_more : (rows : HostRows) (C : PacketFields → Type 0) (outs : List ℕ) (m n : ℕ) (e : Effect) → m ≤ n → IsLawful rows C outs m e → IsLawful rows C outs n e
lawful_more rows C outs m n e more is = let few = is.few in record { stack = is.stack; writes = is.writes; few = omega (arith, few, more) }

pub lawful_then : (rows : HostRows) (C : PacketFields → Type 0) (outs : List ℕ) (m n : ℕ) (e : Effect) (f : Stack → Effect) → IsLawful rows C outs m e
    → ((s : Stack) → IsStack rows s → IsLawful rows C outs n (f s)) → IsLawful rows C outs (m + n) (and_then e f)
lawful_then rows C outs m n e f is next =
    let then_is = next e.stack is.stack in
    let few = is.few in
    let few_then = then_is.few in
    record {
      stack = then_is.stack;
      writes = each_append (IsOwnWrite C outs) e.writes (f e.stack).writes is.writes then_is.writes;
      few = omega (arith, few, few_then, length-append e.writes (f e.stack).writes);
    }

-- Interfaces.
interface_at : (frequency : ℕ) (ports : List HostPort) (interfaces : List InterfaceFields) (k : ℕ) (port : HostPort) (i : InterfaceFields)
    → AreInterfaces frequency ports interfaces → slice_get ports k ≡ Some port → slice_get interfaces k ≡ Some i → IsInterfaceOf frequency port i
interface_at f [] [] k port i are e g = absurd (cc)
interface_at f [] (j ∷ js) k port i are e g = absurd are
interface_at f (p ∷ ps) [] k port i are e g = absurd are
interface_at f (p ∷ ps) (j ∷ js) zero port i are e g =
    let same_port : p ≡ port = cc in
    let same : j ≡ i = cc in
    subst (λ (q : HostPort). IsInterfaceOf f q i) same_port (subst (λ (h : InterfaceFields). IsInterfaceOf f p h) same are.0)
interface_at f (p ∷ ps) (j ∷ js) (suc k) port i are e g = interface_at f ps js k port i are.1 e g

interfaces_set : (frequency : ℕ) (ports : List HostPort) (interfaces : List InterfaceFields) (k : ℕ) (port : HostPort) (i : InterfaceFields)
    → AreInterfaces frequency ports interfaces → slice_get ports k ≡ Some port → IsInterfaceOf frequency port i → AreInterfaces frequency ports (slice_set interfaces k i)
interfaces_set f [] [] k port i are e is = absurd (cc)
interfaces_set f [] (j ∷ js) k port i are e is = absurd are
interfaces_set f (p ∷ ps) [] k port i are e is = absurd are
interfaces_set f (p ∷ ps) (j ∷ js) zero port i are e is =
    let same_port : port ≡ p = cc in (subst (λ (q : HostPort). IsInterfaceOf f q i) same_port is, are.1)
interfaces_set f (p ∷ ps) (j ∷ js) (suc k) port i are e is = (are.0, interfaces_set f ps js k port i are.1 e is)

as_interface : (frequency : ℕ) (port : HostPort) (i : InterfaceFields) → IsRated port.bitrate frequency port.buffer → IsInterfaceOf frequency port i → IsRated i.bitrate i.frequency i.buffer
as_interface f port i rated is = rw (is.bitrate, is.frequency_is, is.buffer) rated

in_time : (i : InterfaceFields) (bytes now : ℕ) → IsRated i.bitrate i.frequency i.buffer → has_room i bytes now ≡ true → delay i bytes now ≤ LongestDelay
in_time i bytes now rated room = delay_short i.bitrate i.frequency i.buffer (wait i now) bytes rated (leb-true (queued i now + bytes) i.buffer room)

offered_short : (i : InterfaceFields) (bytes now : ℕ) → IsRated i.bitrate i.frequency i.buffer → IfSent (offered i bytes now) (λ ticks. ticks ≤ LongestDelay)
unfolding offered
offered_short i bytes now rated =
    if_case (λ (o : Offer). IfSent o (λ ticks. ticks ≤ LongestDelay)) (has_room i bytes now) (in_time i bytes now rated) (λ e. tt)

after_interface : (frequency : ℕ) (port : HostPort) (i : InterfaceFields) (bytes now : ℕ) → IsRated port.bitrate frequency port.buffer → IsInterfaceOf frequency port i → now ≤ LatestTime
    → IsInterfaceOf frequency port (after_offer i bytes now)
unfolding after_offer
after_interface f port i bytes now rated is early =
    if_case (λ (j : InterfaceFields). IsInterfaceOf f port j) (has_room i bytes now)
    (λ room. let short = in_time i bytes now (as_interface f port i rated is) room in
    record { bitrate = is.bitrate; frequency_is = is.frequency_is; buffer = is.buffer; soon = omega (arith, short, early) })
    (λ e. is)

interface_stack : (rows : HostRows) (s : Stack) (place : ℕ) (port : HostPort) (i : InterfaceFields) → IsStack rows s → slice_get rows.ports place ≡ Some port
    → IsInterfaceOf rows.tcp.frequency port i → IsStack rows (with_interface place i s)
interface_stack rows s place port i is e new = record {
  interfaces = interfaces_set rows.tcp.frequency rows.ports s.interfaces place port i is.interfaces e new;
  servers = is.servers;
  progress = is.progress;
  given = is.given;
  left = is.left;
  opened = is.opened;
  entries = is.entries;
  order = is.order;
  accepted = is.accepted;
  few = is.few;
}

second_among : (outs : List ℕ) (pairs : List (ℕ × ℕ)) (number channel : ℕ) → Each (λ (out : ℕ × ℕ). Among out.1 outs) pairs → second_of pairs number ≡ Some channel → Among channel outs
second_among outs [] number channel are e = absurd (cc)
second_among outs (pair ∷ pairs) number channel are e = second_head (nat_eq pair.0 number) e (second_among outs pairs number channel are.1)
  where
    second_head : (b : Bool) → (if b then Some pair.1 else second_of pairs number) ≡ Some channel → (second_of pairs number ≡ Some channel → Among channel outs) → Among channel outs
    second_head true e rest = let same : pair.1 ≡ channel = cc in subst (λ c. Among c outs) same are.0
    second_head false e rest = rest e

-- Packets.
pub packet_is : (sockets : Sockets) (segment : SegmentFields) → IsSegment segment → IsPacket (packet_of sockets segment)
packet_is sockets segment is = record {
  protocol = refl;
  segment = λ other e. let same : segment ≡ other = cc in subst IsSegment same is;
  tcp_bytes = λ other e. let same : segment ≡ other = cc in ap (λ (g : SegmentFields). 40 + g.length) same;
  udp_bytes = λ e. absurd (cc);
}

pub passed_is : (packet : PacketFields) → IsPacket packet → IsPacket (passed_on packet)
passed_is packet is = record { protocol = is.protocol; segment = is.segment; tcp_bytes = is.tcp_bytes; udp_bytes = is.udp_bytes }

module _ (rows : HostRows) (C : PacketFields → Type 0) (outs : List ℕ) (ranges : AreRows rows) (ways : Each (HasOuts outs) rows.ports) where
  answered_lawful : (port : HostPort) (next channel : ℕ) (packet : PacketFields) (o : Offer) (s : Stack) → Among channel outs → C packet
      → IfSent o (λ ticks. ticks ≤ LongestDelay) → IsStack rows s → IsLawful rows C outs 1 (answered port next channel packet o s)
  answered_lawful port next channel packet (Sent ticks) s among carried short is = record { stack = is; writes = ((among, short, carried), tt); few = omega arith }
  answered_lawful port next channel packet Dropped s among carried short is = record { stack = is; writes = tt; few = omega arith }

  offering_lawful : (port : HostPort) (place next channel now : ℕ) (packet : PacketFields) (i : Option InterfaceFields) (s : Stack) → slice_get s.interfaces place ≡ i
      → slice_get rows.ports place ≡ Some port → Among channel outs → C packet → now ≤ LatestTime → IsStack rows s
      → IsLawful rows C outs 1 (offering port place next channel now packet i s)
  offering_lawful port place next channel now packet None s e at among carried early is = lawful_telling rows C outs 1 _ s is
  offering_lawful port place next channel now packet (Some i) s e at among carried early is =
      let rated = each_at (λ (p : HostPort). IsRated p.bitrate rows.tcp.frequency p.buffer) rows.ports place port ranges.ports at in
      let of_port = interface_at rows.tcp.frequency rows.ports s.interfaces place port i is.interfaces at e in
      let after = after_interface rows.tcp.frequency port i packet.bytes now rated of_port early in
      answered_lawful port next channel packet (offered i packet.bytes now) (with_interface place (after_offer i packet.bytes now) s) among carried
      (offered_short i packet.bytes now (as_interface rows.tcp.frequency port i rated of_port)) (interface_stack rows s place port (after_offer i packet.bytes now) is at after)

  over_link_lawful : (port : HostPort) (place next now : ℕ) (packet : PacketFields) (channel : Option ℕ) (s : Stack) → second_of port.outs next ≡ channel
      → slice_get rows.ports place ≡ Some port → C packet → now ≤ LatestTime → IsStack rows s → IsLawful rows C outs 1 (over_link port place next now packet channel s)
  over_link_lawful port place next now packet None s e at carried early is = lawful_telling rows C outs 1 _ s is
  over_link_lawful port place next now packet (Some channel) s e at carried early is =
      let among = second_among outs port.outs next channel (each_at (HasOuts outs) rows.ports place port ways at) e in
      if_case (λ (f : Effect). IsLawful rows C outs 1 f) (is_down port now)
      (λ t. lawful_telling rows C outs 1 _ s is)
      (λ t. offering_lawful port place next channel now packet (slice_get s.interfaces place) s refl at among carried early is)

  from_port_lawful : (port : Option HostPort) (place next now : ℕ) (packet : PacketFields) (s : Stack) → slice_get rows.ports place ≡ port
      → C packet → now ≤ LatestTime → IsStack rows s → IsLawful rows C outs 1 (from_port port place next now packet s)
  from_port_lawful None place next now packet s at carried early is = lawful_telling rows C outs 1 _ s is
  from_port_lawful (Some port) place next now packet s at carried early is =
      over_link_lawful port place next now packet (second_of port.outs next) s refl at carried early is

  forwarded_lawful : (route : Route) (now : ℕ) (packet : PacketFields) (s : Stack) → C packet → now ≤ LatestTime → IsStack rows s
      → IsLawful rows C outs 1 (forwarded rows route now packet s)
  unfolding forwarded
  forwarded_lawful route now packet s carried early is =
      from_port_lawful (slice_get rows.ports route.interface) route.interface (next_hop route packet) now packet s refl carried early is

  pub verdict_lawful : (routes : List Route) (now : ℕ) (packet : PacketFields) (v : Verdict) (s : Stack) → C packet → now ≤ LatestTime → IsStack rows s
      → IsLawful rows C outs 1 (by_verdict rows routes now packet v s)
  verdict_lawful routes now packet Local s carried early is = lawful_quiet rows C outs 1 s is
  verdict_lawful routes now packet (Forward place) s carried early is = forwarded_lawful (route_at routes place) now packet s carried early is
  verdict_lawful routes now packet (DroppedBy reason) s carried early is = lawful_telling rows C outs 1 _ s is

  pub sending_lawful : (now : ℕ) (packet : PacketFields) (s : Stack) → C packet → now ≤ LatestTime → IsStack rows s → IsLawful rows C outs 1 (sending rows now packet s)
  unfolding sending
  sending_lawful now packet s carried early is =
      verdict_lawful (routes_at rows s now) now packet (sent (own_addresses rows) (routes_at rows s now) packet) s carried early is

  -- all that a rule did
  pub all_done_lawful : (makes : (packet : PacketFields) → IsPacket packet → IsOwn rows packet → C packet) (now : ℕ) (sockets : Sockets) (acts : List Act) (s : Stack)
      → IsOwnAddress rows sockets.own → EachSegment IsSegment (sent_of acts) → now ≤ LatestTime → IsStack rows s → IsLawful rows C outs (length (sent_of acts)) (all_done rows now sockets acts s)
  all_done_lawful makes now sockets [] s own are early is = lawful_quiet rows C outs 0 s is
  all_done_lawful makes now sockets (Entered state ∷ acts) s own are early is =
      lawful_more rows C outs (0 + length (sent_of acts)) (length (sent_of acts)) (all_done rows now sockets (Entered state ∷ acts) s) (omega arith)
      (lawful_then rows C outs 0 (length (sent_of acts)) (done rows now sockets (Entered state) s) (all_done rows now sockets acts) (lawful_telling rows C outs 0 _ s is)
      (λ t k. all_done_lawful makes now sockets acts t own are early k))
  all_done_lawful makes now sockets (Delivered bytes ∷ acts) s own are early is =
      lawful_more rows C outs (0 + length (sent_of acts)) (length (sent_of acts)) (all_done rows now sockets (Delivered bytes ∷ acts) s) (omega arith)
      (lawful_then rows C outs 0 (length (sent_of acts)) (done rows now sockets (Delivered bytes) s) (all_done rows now sockets acts) (lawful_telling rows C outs 0 _ s is)
      (λ t k. all_done_lawful makes now sockets acts t own are early k))
  all_done_lawful makes now sockets (Send segment ∷ acts) s own are early is =
      let packet = packet_of sockets segment in
      lawful_more rows C outs (1 + length (sent_of acts)) (length (sent_of (Send segment ∷ acts))) (all_done rows now sockets (Send segment ∷ acts) s) (omega arith)
      (lawful_then rows C outs 1 (length (sent_of acts)) (done rows now sockets (Send segment) s) (all_done rows now sockets acts)
      (sending_lawful now packet s (makes packet (packet_is sockets segment are.0) (own, refl)) early is)
      (λ t k. all_done_lawful makes now sockets acts t own are.1 early k))

-- The own address of what a host sends is one of its own, or 0.
own_if : (rows : HostRows) (a : ℕ) → has_address (own_addresses rows) a ≡ true → (nat_eq a 0 || has_address (own_addresses rows) a) ≡ true
own_if rows a e = own_test (nat_eq a 0) (has_address (own_addresses rows) a) e
  where
    own_test : (b c : Bool) → c ≡ true → (b || c) ≡ true
    own_test true c e = refl
    own_test false c e = e

port_has : (ports : List HostPort) (k : ℕ) (port : HostPort) (a : ℕ) → slice_get ports k ≡ Some port → port.address ≡ Some a
    → has_address (filter_map (λ (p : HostPort). p.address) ports) a ≡ true
port_has [] k port a e f = absurd (cc)
port_has (p ∷ ps) zero port a e f = let same : p.address ≡ Some a = cc in rw same (first_has a (filter_map (λ (p : HostPort). p.address) ps))
  where
    first_has : (a : ℕ) (others : List ℕ) → has_address (a ∷ others) a ≡ true
    first_has a others = ap (λ (b : Bool). b || has_address others a) (eq-eqb a a refl)
port_has (p ∷ ps) (suc k) port a e f = later_has p.address (filter_map (λ (p : HostPort). p.address) ps) (port_has ps k port a e f)
  where
    later_has : (o : Option ℕ) (others : List ℕ) → has_address others a ≡ true → has_address (cons_option o others) a ≡ true
    later_has None others h = h
    later_has (Some b) others h = either_has (nat_eq b a) (has_address others a) h
      where
        either_has : (b c : Bool) → c ≡ true → (b || c) ≡ true
        either_has true c e = refl
        either_has false c e = e

source_at : (rows : HostRows) (port : Option HostPort) (k : ℕ) → slice_get rows.ports k ≡ port → (nat_eq (address_of port) 0 || has_address (own_addresses rows) (address_of port)) ≡ true
unfolding own_addresses
source_at rows None k e = refl
source_at rows (Some port) k e = address_case port.address refl
  where
    address_case : (o : Option ℕ) → port.address ≡ o → (nat_eq (unwrap_or o 0) 0 || has_address (own_addresses rows) (unwrap_or o 0)) ≡ true
    address_case None f = refl
    address_case (Some a) f = own_if rows a (port_has rows.ports k port a e f)

pub source_own : (rows : HostRows) (s : Stack) (now peer : ℕ) → (nat_eq (source_to rows s now peer) 0 || has_address (own_addresses rows) (source_to rows s now peer)) ≡ true
unfolding source_to
source_own rows s now peer = source_case (best_route (routes_at rows s now) peer)
  where
    source_case : (o : Option ℕ) → (nat_eq (source_by rows (routes_at rows s now) o) 0 || has_address (own_addresses rows) (source_by rows (routes_at rows s now) o)) ≡ true
    source_case None = refl
    source_case (Some place) = source_at rows (slice_get rows.ports (route_at (routes_at rows s now) place).interface) (route_at (routes_at rows s now) place).interface refl

pub own_address : (rows : HostRows) (a : ℕ) → has_address (own_addresses rows) a ≡ true → (nat_eq a 0 || has_address (own_addresses rows) a) ≡ true
own_address rows a e = own_if rows a e
