-- How a host sends a packet: the route, the next hop, the link, and the interface.
use Rattle.std.specs.Prelude.{ℕ, ◌+◌, Bool, true, ◌&&◌, nat_eq, nat_le, nat_lt, List, [], ◌∷◌, Option, Some, None, slice_get, slice_set, if◌then◌else◌}
use Rattle.std.specs.List.{list_any, filter_map}
use Rattle.std.specs.Option.{unwrap_or}
use Rattle.sim_base.specs.declared.records.Reason.TheVariants.{Route as NoRoute, Buffer, Link}
use Rattle.sim_base.specs.SegmentFields.{SegmentFields}
use Rattle.spf_routes.specs.declared.graph.Route.{Route}
use Rattle.spf_routes.specs.declared.graph.Period.{Period}
use Rattle.spf_routes.specs.Best.{route_at}
use Rattle.ssf_model.specs.declared.event.Line.TheVariants.{Sent as SentLine, Entered as EnteredLine, Delivered as DeliveredLine}
use Rattle.ssf_model.specs.declared.out.Written.TheVariants.{Channel}
use Rattle.net_iface.specs.InterfaceFields.{InterfaceFields}
use Rattle.net_iface.specs.DropTail.{offered, after_offer}
use Rattle.net_iface.specs.declared.interface.Offer.{Offer}
use Rattle.net_iface.specs.declared.interface.Offer.TheVariants.{Sent, Dropped}
use Rattle.ip_layer.specs.Packets.{PacketFields}
use Rattle.ip_layer.specs.Forwarding.{best_route, sent}
use Rattle.ip_layer.specs.declared.verdict.Verdict.{Verdict}
use Rattle.ip_layer.specs.declared.verdict.Verdict.TheVariants.{Local, Forward, Dropped as DroppedBy}
use Rattle.tcp_rules.specs.declared.records.Act.{Act}
use Rattle.tcp_rules.specs.declared.records.Act.TheVariants.{Entered, Delivered, Send}
use Rattle.host_rules.specs.declared.rows.HostRows.{HostRows}
use Rattle.host_rules.specs.declared.rows.HostPort.{HostPort}
use Rattle.host_rules.specs.Hosts.{Sockets, Stack}
use Rattle.host_rules.specs.Effects.{Effect, quiet, telling, and_then, dropped}

-- The routes of a host: this is the one place that tells them.
-- those of the last of these periods that has begun, or else these
abbrev pub routes_among : List Route → List Period → (now : ℕ) → List Route
routes_among routes [] now = routes
routes_among routes (period ∷ periods) now = routes_among (if nat_le period.from now then period.routes else routes) periods now

unfoldable pub routes_at : HostRows → Stack → (now : ℕ) → List Route
routes_at rows stack now = routes_among [] rows.routes now

-- the addresses of the host's interfaces
unfoldable pub own_addresses : HostRows → List ℕ
own_addresses rows = filter_map (λ (port : HostPort). port.address) rows.ports

-- what the first pair with this number has besides
abbrev pub second_of : List (ℕ × ℕ) → ℕ → Option ℕ
second_of [] number = None
second_of (pair ∷ pairs) number = if nat_eq pair.0 number then Some pair.1 else second_of pairs number

-- the link of an interface is down
unfoldable pub is_down : HostPort → (now : ℕ) → Bool
is_down port now = list_any (λ (down : ℕ × ℕ). nat_le down.0 now && nat_lt now down.1) port.downs

-- An interface's answer to a packet for the next hop: one that is taken goes out on the channel to that hop, with the
-- delay of its last bit, and one that is not is dropped
abbrev pub answered : HostPort → (next channel : ℕ) → PacketFields → Offer → Stack → Effect
answered port next channel packet (Sent delay) stack = record {
  stack = stack;
  writes = Channel channel delay packet ∷ [];
  lines = SentLine port.id next packet.tcp packet.bytes ∷ [];
}
answered port next channel packet Dropped stack = dropped Buffer packet stack

-- the interface of this place, after it was offered a packet
abbrev pub with_interface : (place : ℕ) → InterfaceFields → Stack → Stack
with_interface place interface stack = record stack { interfaces = slice_set stack.interfaces place interface }

abbrev pub offering : HostPort → (place next channel now : ℕ) → PacketFields → Option InterfaceFields → Stack → Effect
offering port place next channel now packet None stack = dropped NoRoute packet stack
offering port place next channel now packet (Some interface) stack =
    answered port next channel packet (offered interface packet.bytes now) (with_interface place (after_offer interface packet.bytes now) stack)

-- where no other attachment of the link has the next hop's address there is no way, and none while the link is down
abbrev pub over_link : HostPort → (place next now : ℕ) → PacketFields → Option ℕ → Stack → Effect
over_link port place next now packet None stack = dropped NoRoute packet stack
over_link port place next now packet (Some channel) stack =
    if is_down port now then dropped Link packet stack
    else offering port place next channel now packet (slice_get stack.interfaces place) stack

abbrev pub from_port : Option HostPort → (place next now : ℕ) → PacketFields → Stack → Effect
from_port None place next now packet stack = dropped NoRoute packet stack
from_port (Some port) place next now packet stack = over_link port place next now packet (second_of port.outs next) stack

-- the next hop is the route's, or the destination where the route has none
abbrev pub next_hop : Route → PacketFields → ℕ
next_hop route packet = if nat_eq route.next 0 then packet.dst else route.next

unfoldable pub forwarded : HostRows → Route → (now : ℕ) → PacketFields → Stack → Effect
forwarded rows route now packet stack =
    from_port (slice_get rows.ports route.interface) route.interface (next_hop route packet) now packet stack

-- what becomes of a packet that the host sends or passes on, by the verdict of IP
abbrev pub by_verdict : HostRows → List Route → (now : ℕ) → PacketFields → Verdict → Stack → Effect
by_verdict rows routes now packet Local stack = quiet stack
by_verdict rows routes now packet (Forward place) stack = forwarded rows (route_at routes place) now packet stack
by_verdict rows routes now packet (DroppedBy reason) stack = dropped reason packet stack

-- a packet of the host's own
unfoldable pub sending : HostRows → (now : ℕ) → PacketFields → Stack → Effect
sending rows now packet stack =
    let routes = routes_at rows stack now in by_verdict rows routes now packet (sent (own_addresses rows) routes packet) stack

-- The source of what a host sends: the address of the interface by which the best route leaves, and 0 where there is none.
abbrev pub address_of : Option HostPort → ℕ
address_of None = 0
address_of (Some port) = unwrap_or port.address 0

abbrev pub source_by : HostRows → List Route → Option ℕ → ℕ
source_by rows routes None = 0
source_by rows routes (Some place) = address_of (slice_get rows.ports (route_at routes place).interface)

unfoldable pub source_to : HostRows → Stack → (now peer : ℕ) → ℕ
source_to rows stack now peer = let routes = routes_at rows stack now in source_by rows routes (best_route routes peer)

-- What a session does, as effects: a segment goes out as a packet.
abbrev pub packet_of : Sockets → SegmentFields → PacketFields
packet_of sockets segment = record {
  src = sockets.own;
  dst = sockets.peer;
  tcp = true;
  ttl = 64;
  src_port = sockets.own_port;
  dst_port = sockets.peer_port;
  bytes = 40 + segment.length;
  segment = Some segment;
}

abbrev pub done : HostRows → (now : ℕ) → Sockets → Act → Stack → Effect
done rows now sockets (Entered state) stack = telling (EnteredLine sockets.own_port sockets.peer sockets.peer_port state) stack
done rows now sockets (Delivered bytes) stack = telling (DeliveredLine sockets.own_port sockets.peer sockets.peer_port bytes) stack
done rows now sockets (Send segment) stack = sending rows now (packet_of sockets segment) stack

-- all that a rule did, in order
abbrev pub all_done : HostRows → (now : ℕ) → Sockets → List Act → Stack → Effect
all_done rows now sockets [] stack = quiet stack
all_done rows now sockets (act ∷ acts) stack = and_then (done rows now sockets act stack) (all_done rows now sockets acts)
