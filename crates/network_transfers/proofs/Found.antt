-- The event of a run at which a segment was sent, and the host that sent it.
use Rattle.std.proofs.Common.{◌≡◌, ℕ, zero, suc, ◌+◌, ◌<◌, ◌≤◌, Bool, true, false, ◌&&◌, cond, nat_eq, List, [], ◌∷◌, map, length, Option, Some, None, option_to_list, slice_get, refl, sym, ap, subst, ◌∙◌, inl, inr, arith}
use Rattle.std.specs.List.{flat_map}
use Rattle.std.proofs.lemmas.Bool.{eqb-true}
use Rattle.event_order.specs.declared.key.Key.{Key}
use Rattle.event_order.specs.Pending.{Among}
use Rattle.event_order.proofs.Pending.{append_among}
use Rattle.sim_base.specs.SegmentFields.{SegmentFields}
use Rattle.ssf_model.specs.declared.event.Event.{Event}
use Rattle.ssf_model.specs.declared.entity.Entity.{Entity}
use Rattle.ssf_model.specs.declared.plan.Plan.{Plan}
use Rattle.ssf_model.specs.declared.wait.Kind.TheVariants.{Message}
use Rattle.ssf_model.specs.declared.out.Written.{Written}
use Rattle.ssf_model.specs.declared.out.Written.TheVariants.{Channel, Timer as TimerWrite}
use Rattle.ssf_model.specs.Reaction.{Each, LatestTime}
use Rattle.ssf_model.specs.Channels.{delivered_to}
use Rattle.ssf_model.specs.Drafts.{start}
use Rattle.ssf_model.specs.Run.{world_after, run_event, Fits}
use Rattle.ip_layer.specs.Packets.{PacketFields, IsPacket}
use Rattle.ip_layer.specs.Forwarding.{has_address, passed_on}
use Rattle.tcp_rules.specs.Servers.{ServerFields}
use Rattle.tcp_rules.specs.Transfers.{LiesIn, LiesAmong}
use Rattle.host_rules.specs.declared.sockets.Sockets.{Sockets}
use Rattle.host_rules.specs.Hosts.{EntryFields, HostFields}
use Rattle.host_rules.specs.Sending.{own_addresses}
use Rattle.host_rules.specs.Reacting.{host_reaction}
use Rattle.host_rules.specs.Limits.{IsHost}
use Rattle.net_graph.specs.declared.rows.Network.{Network}
use Rattle.net_graph.specs.Networks.{IsNetwork, numbers}
use Rattle.net_layout.specs.Faults.{first_fault}
use Rattle.net_hosts.proofs.Ranges.{each_made}
use Rattle.net_plan.specs.NetDraft.{IsNetBuilt}
use Rattle.net_plan.proofs.Beginning.{none_begun, starts_pend}
use Rattle.transfer_laws.specs.Sent.{goes_to, segment_for, segments_from_one, segments_at, segments_sent, IsNoMessage, IsFresh, IsServing}
use Rattle.transfer_laws.specs.Stretch.{WaitsAfter, IsSynAt}
use Rattle.transfer_laws.proofs.Delivered.{delivers_what_came, begins_with_syn, waits_after_delivered, lower_when_passed_on}
use Rattle.network_transfers.specs.Senders.{IsHostOf, SendsTo, HasSent}
use Rattle.network_transfers.proofs.Fitting.{network_fits}
use Rattle.network_transfers.proofs.Addressed.{one_host, address_of_host}

both : (a b : Bool) → (a && b) ≡ true → (a ≡ true) × (b ≡ true)
both true b e = (refl, e)
both false b e = absurd (cc)

lies_in_one : (position : ℕ) (gs : List SegmentFields) → LiesAmong position gs → (g : SegmentFields) × Among g gs × LiesIn position g
lies_in_one position [] l = absurd l
lies_in_one position (g ∷ gs) (inl here) = (g, inl refl, here)
lies_in_one position (g ∷ gs) (inr later) = let one = lies_in_one position gs later in (one.0, inr one.1, one.2)

module _ (ends : Sockets) (segment : SegmentFields) where
  -- a packet between these ends
  from_packet : (channel delay : ℕ) (packet : PacketFields) (ws : List (Written PacketFields)) (b : Bool) (o : Option SegmentFields) → goes_to ends packet ≡ b → packet.segment ≡ o
      → Among segment (cond b (option_to_list o) []) → SendsTo ends segment (Channel channel delay packet ∷ ws)
  from_packet channel delay packet ws false o e s a = absurd a
  from_packet channel delay packet ws true None e s a = absurd a
  from_packet channel delay packet ws true (Some g) e s (inr a) = absurd a
  from_packet channel delay packet ws true (Some g) e s (inl is) =
      let made = both (nat_eq packet.ttl 64) _ e in
      let own = both (nat_eq ends.own packet.dst) _ made.1 in
      let port = both (nat_eq ends.own_port packet.dst_port) _ own.1 in
      let peer = both (nat_eq ends.peer packet.src) _ port.1 in
      record {
        channel = channel;
        delay = delay;
        packet = packet;
        written = inl refl;
        made = eqb-true packet.ttl 64 made.0;
        source = sym (eqb-true ends.peer packet.src peer.0);
        source_port = sym (eqb-true ends.peer_port packet.src_port peer.1);
        destination = sym (eqb-true ends.own packet.dst own.0);
        destination_port = sym (eqb-true ends.own_port packet.dst_port port.0);
        brings = s ∙ ap (λ k. Some k) (sym is);
      }

  from_write : (w : Written PacketFields) (ws : List (Written PacketFields)) → Among segment (segment_for ends w) → SendsTo ends segment (w ∷ ws)
  from_write (Channel channel delay packet) ws a = from_packet channel delay packet ws (goes_to ends packet) packet.segment refl refl a
  from_write (TimerWrite process delay ticket) ws a = absurd a

  one_more : (w : Written PacketFields) (ws : List (Written PacketFields)) → SendsTo ends segment ws → SendsTo ends segment (w ∷ ws)
  one_more w ws s = record {
    channel = s.channel;
    delay = s.delay;
    packet = s.packet;
    written = inr s.written;
    made = s.made;
    source = s.source;
    source_port = s.source_port;
    destination = s.destination;
    destination_port = s.destination_port;
    brings = s.brings;
  }

  from_writes : (ws : List (Written PacketFields)) → Among segment (flat_map (segment_for ends) ws) → SendsTo ends segment ws
  from_writes [] a = absurd a
  from_writes (w ∷ ws) a = elim (append_among segment (segment_for ends w) (flat_map (segment_for ends) ws) a) [
    | inl here ↦ from_write w ws here
    | inr later ↦ one_more w ws (from_writes ws later)
  ]

  module _ {B : Type 0} where
    -- at an event a host of the peer's address writes such a packet
    record IsSender (o : Option (Event PacketFields)) (hosts : List (Entity B HostFields PacketFields)) : Type 0 where
      event : Event PacketFields
      is : o ≡ Some event
      host : Entity B HostFields PacketFields
      there : slice_get hosts event.entity ≡ Some host
      own : has_address (own_addresses host.state.rows) ends.peer ≡ true
      sends : SendsTo ends segment (delivered_to host_reaction event host).writes

    from_host : (e : Event PacketFields) (host : Entity B HostFields PacketFields) (hosts : List (Entity B HostFields PacketFields)) (b : Bool) → slice_get hosts e.entity ≡ Some host
        → has_address (own_addresses host.state.rows) ends.peer ≡ b → Among segment (cond b (flat_map (segment_for ends) (delivered_to host_reaction e host).writes) []) → IsSender (Some e) hosts
    from_host e host hosts false at own a = absurd a
    from_host e host hosts true at own a = record { event = e; is = refl; host = host; there = at; own = own; sends = from_writes (delivered_to host_reaction e host).writes a }

    from_entity : (e : Event PacketFields) (o : Option (Entity B HostFields PacketFields)) (hosts : List (Entity B HostFields PacketFields)) → slice_get hosts e.entity ≡ o → Among segment (segments_from_one ends e o)
        → IsSender (Some e) hosts
    from_entity e None hosts at a = absurd a
    from_entity e (Some host) hosts at a = from_host e host hosts (has_address (own_addresses host.state.rows) ends.peer) at refl a

    from_event : (o : Option (Event PacketFields)) (hosts : List (Entity B HostFields PacketFields)) → Among segment (segments_at ends o hosts) → IsSender o hosts
    from_event None hosts a = absurd a
    from_event (Some e) hosts a = from_entity e (slice_get hosts e.entity) hosts refl a

-- ---- along the run of a network's plan

quiet_starts : (n : ℕ) → Each (λ (e : Event PacketFields). IsNoMessage e.kind) (map start (numbers n))
quiet_starts n = each_made (λ (e : Event PacketFields). IsNoMessage e.kind) start 0 n (λ i low high. tt)

module _ {B : Type 0} (behaviour : B) (network : Network) (is : IsNetwork network) (none : first_fault network ≡ None) (plan : Plan B HostFields PacketFields) (built : IsNetBuilt behaviour network plan)
    (until : ℕ) (kept : Key → Bool) where
  fresh : IsFresh plan
  fresh = record {
    sessions = none_begun behaviour network plan built;
    events = subst (λ (es : List (Event PacketFields)). Each (λ (e : Event PacketFields). IsNoMessage e.kind) es) (sym (starts_pend behaviour network plan built)) (quiet_starts (length network.hosts));
  }

  fits : Fits IsHost IsPacket plan
  fits = network_fits behaviour network plan is none built

  abbrev IsFound : Sockets → SegmentFields → ℕ → Type 0
  IsFound ends segment n = (h : ℕ) × IsHostOf network ends.peer h × HasSent plan until kept n h ends segment

  found_now : (n : ℕ) (ends : Sockets) (segment : SegmentFields)
      → IsSender ends segment (run_event host_reaction plan until kept n) (world_after host_reaction plan until kept n).state.entities → IsFound ends segment (suc n)
  found_now n ends segment sender =
      let h : ℕ = sender.event.entity in
      let has = address_of_host behaviour network plan built until kept n h ends.peer sender.host is sender.there sender.own in (
        h,
        record { has = has; alone = λ g other. one_host network g h ends.peer is none other has },
        record { number = n; before = omega arith; event = sender.event; is = sender.is; at_host = refl; host = sender.host; there = sender.there; sends = sender.sends },
      )

  found_later : (n : ℕ) (ends : Sockets) (segment : SegmentFields) → IsFound ends segment n → IsFound ends segment (suc n)
  found_later n ends segment found =
      let sent = found.2 in
      let before = sent.before in (
        found.0,
        found.1,
        record { number = sent.number; before = omega (arith, before); event = sent.event; is = sent.is; at_host = sent.at_host; host = sent.host; there = sent.there; sends = sent.sends },
      )

  found : (n : ℕ) (ends : Sockets) (segment : SegmentFields) → Among segment (segments_sent plan until kept ends n) → IsFound ends segment n
  found zero ends segment a = absurd a
  found (suc n) ends segment a =
      elim (append_among segment (segments_sent plan until kept ends n) (segments_at ends (run_event host_reaction plan until kept n) (world_after host_reaction plan until kept n).state.entities) a) [
        | inl early ↦ found_later n ends segment (found n ends segment early)
        | inr now ↦ found_now n ends segment (from_event ends segment (run_event host_reaction plan until kept n) (world_after host_reaction plan until kept n).state.entities now)
      ]

  pub delivers_what_host_sent : until ≤ LatestTime → (n : ℕ) (x : EntryFields) (server : ServerFields) → IsServing plan until kept n x server → (x.sockets.peer ≡ 0 → ⊥)
      → (position : ℕ) → server.irs < position → position ≤ server.irs + server.delivered
      → (h : ℕ) × IsHostOf network x.sockets.peer h × (segment : SegmentFields) × HasSent plan until kept n h x.sockets segment × LiesIn position segment
  delivers_what_host_sent in_time n x server serving known position low high =
      let one = lies_in_one position (segments_sent plan until kept x.sockets n) (delivers_what_came plan until in_time fits fresh kept n x server serving known position low high) in
      let sender = found n x.sockets one.0 one.1 in
      (sender.0, sender.1, one.0, sender.2, one.2)

  pub syn_of_host : until ≤ LatestTime → (n : ℕ) (x : EntryFields) (server : ServerFields) → IsServing plan until kept n x server → (x.sockets.peer ≡ 0 → ⊥)
      → (h : ℕ) × IsHostOf network x.sockets.peer h × (segment : SegmentFields) × HasSent plan until kept n h x.sockets segment × IsSynAt server.irs segment
  syn_of_host in_time n x server serving known =
      let one = begins_with_syn plan until in_time fits fresh kept n x server serving known in
      let sender = found n x.sockets one.segment one.among in
      (sender.0, sender.1, one.segment, sender.2, one.is)

  pub waits_in_network : until ≤ LatestTime → (n : ℕ) (x : EntryFields) (server : ServerFields) → IsServing plan until kept n x server → WaitsAfter server.state server
  waits_in_network in_time n x server serving = waits_after_delivered plan until in_time fits fresh kept n x server serving

  pub less_time_passed_on : until ≤ LatestTime → (n : ℕ) (event : Event PacketFields) (channel : ℕ) (came : PacketFields)
      → run_event host_reaction plan until kept n ≡ Some event → event.kind ≡ Message channel came → (passed_on came).ttl < 64
  less_time_passed_on in_time n event channel came is brings = lower_when_passed_on plan until in_time fits fresh kept n event channel came is brings
