-- What the host of the peer's address has sent to a session is among what was sent to it.
use Rattle.std.proofs.Common.{◌≡◌, ℕ, zero, suc, ◌<◌, Bool, true, List, Option, Some, slice_get, sym, subst, refl, inl, inr, arith}
use Rattle.std.proofs.lemmas.Bool.{cases_lt, eq-eqb}
use Rattle.event_order.specs.declared.key.Key.{Key}
use Rattle.event_order.specs.Pending.{Among}
use Rattle.event_order.proofs.Pending.{among_append_left, among_append_right}
use Rattle.sim_base.specs.SegmentFields.{SegmentFields}
use Rattle.ssf_model.specs.declared.event.Event.{Event}
use Rattle.ssf_model.specs.declared.entity.Entity.{Entity}
use Rattle.ssf_model.specs.declared.plan.Plan.{Plan}
use Rattle.ssf_model.specs.declared.out.Written.{Written}
use Rattle.ssf_model.specs.declared.out.Written.TheVariants.{Channel}
use Rattle.ssf_model.specs.Channels.{delivered_to}
use Rattle.ssf_model.specs.Run.{world_after, run_event}
use Rattle.ip_layer.specs.Packets.{PacketFields}
use Rattle.ip_layer.specs.Forwarding.{has_address}
use Rattle.host_rules.specs.declared.sockets.Sockets.{Sockets}
use Rattle.host_rules.specs.Hosts.{HostFields}
use Rattle.host_rules.specs.Sending.{own_addresses}
use Rattle.host_rules.specs.Reacting.{host_reaction}
use Rattle.net_graph.specs.declared.rows.Network.{Network}
use Rattle.net_graph.specs.Networks.{IsNetwork}
use Rattle.net_plan.specs.NetDraft.{IsNetBuilt}
use Rattle.transfer_laws.specs.Sent.{segment_for, segments_from, segments_from_one, segments_at, segments_sent}
use Rattle.transfer_laws.proofs.Sources.{among_parts}
use Rattle.network_transfers.specs.Senders.{IsHostOf, SendsTo, HasSent}
use Rattle.network_transfers.proofs.Addressed.{host_of_address}

module _ (ends : Sockets) (segment : SegmentFields) where
  written_for : (ws : List (Written PacketFields)) (s : SendsTo ends segment ws) → Among segment (segment_for ends (Channel s.channel s.delay s.packet))
  written_for ws s = rw (
    eq-eqb s.packet.ttl 64 s.made,
    eq-eqb ends.own s.packet.dst (sym s.destination),
    eq-eqb ends.own_port s.packet.dst_port (sym s.destination_port),
    eq-eqb ends.peer s.packet.src (sym s.source),
    eq-eqb ends.peer_port s.packet.src_port (sym s.source_port),
    s.brings,
  ) (inl refl)

  module _ {B : Type 0} where
    of_host : (e : Event PacketFields) (host : Entity B HostFields PacketFields) → has_address (own_addresses host.state.rows) ends.peer ≡ true → SendsTo ends segment (delivered_to host_reaction e host).writes
        → Among segment (segments_from ends e host)
    of_host e host own sends =
        let writes = (delivered_to host_reaction e host).writes in
        rw own (among_parts (segment_for ends) segment (Channel sends.channel sends.delay sends.packet) writes sends.written (written_for writes sends))

    of_event : (o : Option (Event PacketFields)) (e : Event PacketFields) (hosts : List (Entity B HostFields PacketFields)) (host : Entity B HostFields PacketFields) → o ≡ Some e → slice_get hosts e.entity ≡ Some host
        → Among segment (segments_from ends e host) → Among segment (segments_at ends o hosts)
    of_event o e hosts host is at a =
        let one : Among segment (segments_from_one ends e (slice_get hosts e.entity)) = subst (λ (found : Option (Entity B HostFields PacketFields)). Among segment (segments_from_one ends e found)) (sym at) a in
        subst (λ (event : Option (Event PacketFields)). Among segment (segments_at ends event hosts)) (sym is) one

    module _ (plan : Plan B HostFields PacketFields) (until : ℕ) (kept : Key → Bool) where
      among_sent : (n number : ℕ) → number < n
          → Among segment (segments_at ends (run_event host_reaction plan until kept number) (world_after host_reaction plan until kept number).state.entities) → Among segment (segments_sent plan until kept ends n)
      among_sent zero number before a = absurd (omega (arith, before))
      among_sent (suc n) number before a =
          let now = segments_at ends (run_event host_reaction plan until kept n) (world_after host_reaction plan until kept n).state.entities in
          elim (cases_lt number n) [
            | inl less ↦ among_append_left segment (segments_sent plan until kept ends n) now (among_sent n number less a)
            | inr le ↦
                let same : number ≡ n = omega (arith, before, le) in
                among_append_right segment (segments_sent plan until kept ends n) now
                (subst (λ k. Among segment (segments_at ends (run_event host_reaction plan until kept k) (world_after host_reaction plan until kept k).state.entities)) same a)
          ]

pub sent_is_among : {B : Type 0} (behaviour : B) (network : Network) (plan : Plan B HostFields PacketFields) (until : ℕ) (kept : Key → Bool) → IsNetwork network → IsNetBuilt behaviour network plan
    → (n h : ℕ) (ends : Sockets) (segment : SegmentFields) → IsHostOf network ends.peer h → HasSent plan until kept n h ends segment → Among segment (segments_sent plan until kept ends n)
sent_is_among behaviour network plan until kept is built n h ends segment of has =
    let hosts = (world_after host_reaction plan until kept has.number).state.entities in
    let own = host_of_address behaviour network plan built until kept has.number h ends.peer has.host is has.there of.has in
    let at : slice_get hosts has.event.entity ≡ Some has.host = subst (λ k. slice_get hosts k ≡ Some has.host) (sym has.at_host) has.there in
    among_sent ends segment plan until kept n has.number has.before
    (of_event ends segment (run_event host_reaction plan until kept has.number) has.event hosts has.host has.is at (of_host ends segment has.event has.host own has.sends))
