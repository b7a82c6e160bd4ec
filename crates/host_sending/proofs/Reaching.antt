-- What a host keeps stays in range when it sends.
use Rattle.std.proofs.Common.{ℕ, ◌≤◌, List, [], ◌∷◌, refl, inl, inr}
use Rattle.event_order.specs.Pending.{Among}
use Rattle.spf_routes.specs.declared.graph.Route.{Route}
use Rattle.ssf_model.specs.Reaction.{Each, LatestTime}
use Rattle.ip_layer.specs.Packets.{PacketFields}
use Rattle.ip_layer.specs.declared.verdict.Verdict.{Verdict}
use Rattle.tcp_rules.specs.declared.records.Act.{Act}
use Rattle.tcp_rules.specs.declared.records.Act.TheVariants.{Entered, Delivered, Send}
use Rattle.host_rules.specs.declared.rows.HostRows.{HostRows}
use Rattle.host_rules.specs.declared.rows.HostPort.{HostPort}
use Rattle.host_rules.specs.declared.sockets.Sockets.{Sockets}
use Rattle.host_rules.specs.Hosts.{Stack}
use Rattle.host_rules.specs.Sending.{by_verdict, sending, done, packet_of}
use Rattle.host_rules.specs.Limits.{AreRows, HasOuts, IsStack}
use Rattle.host_rules.proofs.Listing.{each_more}
use Rattle.host_rules.proofs.Lawful.{verdict_lawful, sending_lawful}

-- The out-channels of all interfaces.
outs_in : List (ℕ × ℕ) → List ℕ → List ℕ
outs_in [] rest = rest
outs_in (out ∷ outs) rest = out.1 ∷ outs_in outs rest

outs_of : List HostPort → List ℕ
outs_of [] = []
outs_of (port ∷ ports) = outs_in port.outs (outs_of ports)

among_rest : (c : ℕ) (outs : List (ℕ × ℕ)) (rest : List ℕ) → Among c rest → Among c (outs_in outs rest)
unfolding outs_in
among_rest c [] rest m = m
among_rest c (out ∷ outs) rest m = inr (among_rest c outs rest m)

outs_among : (outs : List (ℕ × ℕ)) (rest : List ℕ) → Each (λ (out : ℕ × ℕ). Among out.1 (outs_in outs rest)) outs
unfolding outs_in
outs_among [] rest = tt
outs_among (out ∷ outs) rest = (inl refl, each_more (λ (o : ℕ × ℕ). Among o.1 (outs_in outs rest)) (λ (o : ℕ × ℕ). Among o.1 (out.1 ∷ outs_in outs rest)) outs (λ o m. inr m) (outs_among outs rest))

ways : (ports : List HostPort) → Each (HasOuts (outs_of ports)) ports
unfolding outs_of
ways [] = tt
ways (port ∷ ports) = (
  outs_among port.outs (outs_of ports),
  each_more (HasOuts (outs_of ports)) (HasOuts (outs_in port.outs (outs_of ports))) ports
      (λ p h. each_more (λ (o : ℕ × ℕ). Among o.1 (outs_of ports)) (λ (o : ℕ × ℕ). Among o.1 (outs_in port.outs (outs_of ports))) p.outs (λ o m. among_rest o.1 port.outs (outs_of ports) m) h) (ways ports),
)

abbrev AnyPacket : PacketFields → Type 0
AnyPacket packet = Unit {0}

-- Sending.
pub verdict_keeps : (rows : HostRows) (routes : List Route) (now : ℕ) (packet : PacketFields) (v : Verdict) (s : Stack) → AreRows rows → now ≤ LatestTime → IsStack rows s
    → IsStack rows (by_verdict rows routes now packet v s).stack
verdict_keeps rows routes now packet v s ranges early is = (verdict_lawful rows AnyPacket (outs_of rows.ports) ranges (ways rows.ports) routes now packet v s tt early is).stack

pub sending_keeps : (rows : HostRows) (now : ℕ) (packet : PacketFields) (s : Stack) → AreRows rows → now ≤ LatestTime → IsStack rows s → IsStack rows (sending rows now packet s).stack
sending_keeps rows now packet s ranges early is = (sending_lawful rows AnyPacket (outs_of rows.ports) ranges (ways rows.ports) now packet s tt early is).stack

pub done_keeps : (rows : HostRows) (now : ℕ) (sockets : Sockets) (act : Act) (s : Stack) → AreRows rows → now ≤ LatestTime → IsStack rows s → IsStack rows (done rows now sockets act s).stack
done_keeps rows now sockets (Entered state) s ranges early is = is
done_keeps rows now sockets (Delivered bytes) s ranges early is = is
done_keeps rows now sockets (Send segment) s ranges early is = sending_keeps rows now (packet_of sockets segment) s ranges early is
